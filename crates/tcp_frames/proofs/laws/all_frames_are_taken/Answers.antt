use Rattle.tcp_frames.proofs.RunLaws.{all_taken}
use Rattle.tcp_frames.proofs.laws.all_frames_are_taken.Goals as goal

pub returns : goal.returns
returns c = all_taken

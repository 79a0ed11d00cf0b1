use Rattle.tcp_frames.proofs.RunLaws.{frames_kept}
use Rattle.tcp_frames.proofs.laws.cut_does_not_matter.Goals as goal

pub returns : goal.returns
returns c = frames_kept

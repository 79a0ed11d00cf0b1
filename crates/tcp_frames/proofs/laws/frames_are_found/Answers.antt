use Rattle.tcp_frames.proofs.FrameLaws.{cut_found}
use Rattle.tcp_frames.proofs.laws.frames_are_found.Goals as goal

pub returns : goal.returns
returns c = cut_found

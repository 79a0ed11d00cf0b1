use Rattle.tcp_frames.proofs.FrameLaws.{cut_once}
use Rattle.tcp_frames.proofs.laws.frames_are_unique.Goals as goal

pub returns : goal.returns
returns c = cut_once

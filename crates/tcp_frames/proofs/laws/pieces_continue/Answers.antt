use Rattle.tcp_frames.proofs.FrameLaws.{continues}
use Rattle.tcp_frames.proofs.laws.pieces_continue.Goals as goal

pub returns : goal.returns
returns c = continues

use Rattle.tcp_frames.proofs.FrameLaws.{none_leads}
use Rattle.tcp_frames.proofs.laws.unfinished_has_no_frame.Goals as goal

pub returns : goal.returns
returns c = none_leads

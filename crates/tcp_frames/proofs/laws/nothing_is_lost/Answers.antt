use Rattle.tcp_frames.proofs.RunLaws.{octets_kept}
use Rattle.tcp_frames.proofs.laws.nothing_is_lost.Goals as goal

pub returns : goal.returns
returns c = octets_kept

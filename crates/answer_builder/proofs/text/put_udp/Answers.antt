use Rattle.std.proofs.Common.{rules}
use Rattle.answer_builder.proofs.text.put_udp.Goals as goal

pub returns : goal.returns
returns g c = search rules

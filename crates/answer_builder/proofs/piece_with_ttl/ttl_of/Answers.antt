use Rattle.std.proofs.Common.{rules}
use Rattle.answer_builder.proofs.piece_with_ttl.ttl_of.Goals as goal

pub returns : goal.returns
returns g c = search rules

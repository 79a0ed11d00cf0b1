use Rattle.std.proofs.Common.{rules}
use Rattle.outstanding.proofs.table.take_key.Goals as goal

pub returns-clause-items : goal.returns-clause-items
returns-clause-items g c = search rules

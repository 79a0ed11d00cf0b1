use Rattle.std.proofs.Common.{rules}
use Rattle.outstanding.proofs.table.Table.clear.Goals as goal

pub returns-clause-indexed : goal.returns-clause-indexed
returns-clause-indexed g c = search rules

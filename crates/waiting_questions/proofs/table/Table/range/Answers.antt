use Rattle.std.proofs.Common.{rules}
use Rattle.waiting_questions.proofs.table.Table.range.Goals as goal

pub returns : goal.returns
returns g c = search rules

use Rattle.step_table.proofs.Progress.{next_due_tells}
use Rattle.step_table.proofs.laws.next_due_tells.Goals as goal

pub returns : goal.returns
returns c = next_due_tells

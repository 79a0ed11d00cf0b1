use Rattle.step_table.proofs.Progress.{less_is_left, left_is_bounded, more_is_served}
use Rattle.step_table.proofs.laws.what_is_left_falls.Goals as goal

pub returns-clause-less : goal.returns-clause-less
returns-clause-less c = less_is_left

pub returns-clause-bounded : goal.returns-clause-bounded
returns-clause-bounded c = left_is_bounded

pub returns-clause-served : goal.returns-clause-served
returns-clause-served c = more_is_served

use Rattle.theorem_use.proofs.Given.{nobody_waits_for_what_came}
use Rattle.theorem_use.proofs.laws.nobody_waits_for_what_came.Goals as goal

pub returns : goal.returns
returns c = nobody_waits_for_what_came

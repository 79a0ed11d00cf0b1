use Rattle.step_history.proofs.Tries.{tries_are_last}
use Rattle.step_history.proofs.laws.tries_are_the_last_of_the_era.Goals as goal

pub returns : goal.returns
returns c = tries_are_last

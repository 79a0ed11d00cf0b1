use Rattle.theorem_cache.proofs.Hits.{look_ups_are_right, look_ups_that_go_on_are_right}
use Rattle.theorem_cache.proofs.laws.look_ups_are_right.Goals as goal

pub returns-clause-asked : goal.returns-clause-asked
returns-clause-asked c = look_ups_are_right

pub returns-clause-waiting : goal.returns-clause-waiting
returns-clause-waiting c = look_ups_that_go_on_are_right

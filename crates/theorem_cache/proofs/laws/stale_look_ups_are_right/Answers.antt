use Rattle.theorem_cache.proofs.StaleLookUps.{stale_look_ups_are_right}
use Rattle.theorem_cache.proofs.laws.stale_look_ups_are_right.Goals as goal

pub returns : goal.returns
returns c = stale_look_ups_are_right

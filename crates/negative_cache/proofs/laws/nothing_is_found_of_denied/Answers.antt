use Rattle.negative_cache.proofs.StaleLookUps.{nothing_is_found_of_denied}
use Rattle.negative_cache.proofs.laws.nothing_is_found_of_denied.Goals as goal

pub returns : goal.returns
returns c = nothing_is_found_of_denied

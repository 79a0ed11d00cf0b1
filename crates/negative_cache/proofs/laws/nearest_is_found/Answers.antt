use Rattle.negative_cache.proofs.Nearest.{nearest_is_found}
use Rattle.negative_cache.proofs.laws.nearest_is_found.Goals as goal

pub returns : goal.returns
returns c = nearest_is_found

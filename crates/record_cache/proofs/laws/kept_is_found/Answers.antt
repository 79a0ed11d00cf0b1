use Rattle.record_cache.proofs.Keeping.{kept_is_found}
use Rattle.record_cache.proofs.laws.kept_is_found.Goals as goal

pub returns : goal.returns
returns c = kept_is_found

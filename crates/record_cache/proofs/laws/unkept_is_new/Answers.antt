use Rattle.record_cache.proofs.Keeping.{unkept_is_new}
use Rattle.record_cache.proofs.laws.unkept_is_new.Goals as goal

pub returns : goal.returns
returns c = unkept_is_new

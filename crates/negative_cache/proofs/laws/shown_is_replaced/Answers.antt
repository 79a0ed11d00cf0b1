use Rattle.negative_cache.proofs.Keeping.{shown_is_replaced}
use Rattle.negative_cache.proofs.laws.shown_is_replaced.Goals as goal

pub returns : goal.returns
returns c = shown_is_replaced

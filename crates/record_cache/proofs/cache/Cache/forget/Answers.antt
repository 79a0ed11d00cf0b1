use Rattle.std.proofs.Common.{rules}
use Rattle.record_cache.proofs.cache.Cache.forget.Goals as goal

pub returns : goal.returns
returns g c = search rules

use Rattle.std.proofs.Common.{rules}
use Rattle.record_cache.proofs.cache.Cache.new.Goals as goal

pub returns : goal.returns
returns g c = search rules

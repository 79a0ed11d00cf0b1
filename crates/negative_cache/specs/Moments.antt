-- The input of a look-up.
use Rattle.std.specs.Prelude.{ℕ}
use Rattle.suffix_routes.specs.Values.{Config}
use Rattle.record_cache.specs.Values.{Cache}

-- a cache at a moment, in milliseconds, under a configuration
pub record CacheAt : Type 0 where
  pub cache : Cache
  pub config : Config
  pub moment : ℕ

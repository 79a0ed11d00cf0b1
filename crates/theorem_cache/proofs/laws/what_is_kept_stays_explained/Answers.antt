use Rattle.theorem_cache.proofs.Caching.{quiet_steps_keep, promotions_keep_cached, offers_keep_cached}
use Rattle.theorem_cache.proofs.laws.what_is_kept_stays_explained.Goals as goal

pub returns-clause-quiet : goal.returns-clause-quiet
returns-clause-quiet c = quiet_steps_keep

pub returns-clause-promoted : goal.returns-clause-promoted
returns-clause-promoted c = promotions_keep_cached

pub returns-clause-offered : goal.returns-clause-offered
returns-clause-offered c = offers_keep_cached

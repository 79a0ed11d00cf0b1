use Rattle.negative_cache.proofs.StaleLookUps.{equal_questions_find_the_same_stale, no_window_finds_the_living, promotion_keeps_stale}
use Rattle.negative_cache.proofs.laws.stale_is_settled.Goals as goal

pub returns-clause-promoted : goal.returns-clause-promoted
returns-clause-promoted c = promotion_keeps_stale

pub returns-clause-spelled : goal.returns-clause-spelled
returns-clause-spelled c = equal_questions_find_the_same_stale

pub returns-clause-living : goal.returns-clause-living
returns-clause-living c = no_window_finds_the_living

use Rattle.theorem_cache.proofs.Caching.{answers_from_cache_agree, promotions_find_the_same}
use Rattle.theorem_cache.proofs.laws.answers_from_cache_agree.Goals as goal

pub returns-clause-agree : goal.returns-clause-agree
returns-clause-agree c = answers_from_cache_agree

pub returns-clause-found : goal.returns-clause-found
returns-clause-found c = promotions_find_the_same

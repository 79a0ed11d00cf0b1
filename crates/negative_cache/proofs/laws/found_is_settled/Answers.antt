use Rattle.negative_cache.proofs.Keeping.{equal_questions_find_the_same, promotion_keeps_found}
use Rattle.negative_cache.proofs.laws.found_is_settled.Goals as goal

pub returns-clause-promoted : goal.returns-clause-promoted
returns-clause-promoted c = promotion_keeps_found

pub returns-clause-spelled : goal.returns-clause-spelled
returns-clause-spelled c = equal_questions_find_the_same

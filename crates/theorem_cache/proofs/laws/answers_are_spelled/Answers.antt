use Rattle.theorem_cache.proofs.Texts.{answers_are_spelled, stale_answers_are_spelled, local_answers_are_spelled}
use Rattle.theorem_cache.proofs.laws.answers_are_spelled.Goals as goal

pub returns-clause-living : goal.returns-clause-living
returns-clause-living c = answers_are_spelled

pub returns-clause-stale : goal.returns-clause-stale
returns-clause-stale c = stale_answers_are_spelled

pub returns-clause-local : goal.returns-clause-local
returns-clause-local c = local_answers_are_spelled

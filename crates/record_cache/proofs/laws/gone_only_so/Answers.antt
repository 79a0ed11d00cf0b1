use Rattle.record_cache.proofs.Keeping.{offered_stay, others_stay, promoted_stay}
use Rattle.record_cache.proofs.laws.gone_only_so.Goals as goal

pub returns-clause-offered : goal.returns-clause-offered
returns-clause-offered c = offered_stay

pub returns-clause-forgotten : goal.returns-clause-forgotten
returns-clause-forgotten c = others_stay

pub returns-clause-promoted : goal.returns-clause-promoted
returns-clause-promoted c = promoted_stay

use Rattle.cache_laws.proofs.Serving.{serves_exactly, denies_names_exactly, none_serves_exactly}
use Rattle.cache_laws.proofs.shared.serves_exactly.Goals as goal

pub returns-clause-served : goal.returns-clause-served
returns-clause-served c = serves_exactly

pub returns-clause-denied : goal.returns-clause-denied
returns-clause-denied c = denies_names_exactly

pub returns-clause-neither : goal.returns-clause-neither
returns-clause-neither c = none_serves_exactly

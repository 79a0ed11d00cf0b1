use Rattle.cache_laws.proofs.Replacing.{replaces_exactly}
use Rattle.cache_laws.proofs.shared.replaces_exactly.Goals as goal

pub returns : goal.returns
returns c = replaces_exactly

use Rattle.cache_laws.proofs.Denials.{denies_exactly}
use Rattle.cache_laws.proofs.replies.denies_exactly.Goals as goal

pub returns : goal.returns
returns c = denies_exactly

use Rattle.cache_laws.proofs.Carried.{carried_exactly}
use Rattle.cache_laws.proofs.replies.carried_exactly.Goals as goal

pub returns : goal.returns
returns c = carried_exactly

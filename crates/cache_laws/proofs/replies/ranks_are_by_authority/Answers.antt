use Rattle.cache_laws.proofs.Ranks.{ranks_are_by_authority}
use Rattle.cache_laws.proofs.replies.ranks_are_by_authority.Goals as goal

pub returns : goal.returns
returns c = ranks_are_by_authority

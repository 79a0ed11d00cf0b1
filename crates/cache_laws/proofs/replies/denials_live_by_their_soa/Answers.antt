use Rattle.cache_laws.proofs.Lifetimes.{denials_live_by_their_soa}
use Rattle.cache_laws.proofs.replies.denials_live_by_their_soa.Goals as goal

pub returns : goal.returns
returns c = denials_live_by_their_soa

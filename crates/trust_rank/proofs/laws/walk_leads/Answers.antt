use Rattle.trust_rank.proofs.Leading.{walk_leads}
use Rattle.trust_rank.proofs.laws.walk_leads.Goals as goal

pub returns : goal.returns
returns c = walk_leads

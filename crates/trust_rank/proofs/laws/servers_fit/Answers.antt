use Rattle.trust_rank.proofs.Leading.{servers_fit}
use Rattle.trust_rank.proofs.laws.servers_fit.Goals as goal

pub returns : goal.returns
returns c = servers_fit

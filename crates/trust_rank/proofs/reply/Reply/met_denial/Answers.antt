use Rattle.std.proofs.Common.{rules}
use Rattle.trust_rank.proofs.reply.Reply.met_denial.Goals as goal

pub returns-then-self-eq-NXDOMAIN : goal.returns-then-self-eq-NXDOMAIN
returns-then-self-eq-NXDOMAIN g c = search rules

use Rattle.std.proofs.Common.{rules}
use Rattle.trust_rank.proofs.reply.target_of.Goals as goal

pub returns-in-Some-clause-target : goal.returns-in-Some-clause-target
returns-in-Some-clause-target g c = search rules

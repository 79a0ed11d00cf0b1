use Rattle.std.proofs.Common.{rules}
use Rattle.trust_rank.proofs.sets.Gathered.begin.Goals as goal

pub returns-clause-lifetime : goal.returns-clause-lifetime
returns-clause-lifetime g c = search rules

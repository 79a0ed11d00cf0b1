use Rattle.std.proofs.Common.{rules}
use Rattle.ready_sockets.proofs.origin.Origin.of.Goals as goal

pub returns-in-4-clause-some : goal.returns-in-4-clause-some
returns-in-4-clause-some c = search rules

use Rattle.std.proofs.Common.{rules}
use Rattle.ready_sockets.proofs.readiness.Readiness.is_empty.Goals as goal

pub returns-then-is_empty : goal.returns-then-is_empty
returns-then-is_empty g c = search rules

use Rattle.std.proofs.Common.{rules}
use Rattle.ready_sockets.proofs.readiness.Ready.remove.Goals as goal

pub returns-in-Datagrams : goal.returns-in-Datagrams
returns-in-Datagrams g c = search rules

use Rattle.std.proofs.Common.{rules}
use Rattle.socket_wire.proofs.sockets.Sockets.take_server.Goals as goal

pub returns-in-Ok : goal.returns-in-Ok
returns-in-Ok g c = rw (← c.self.view_is) (search rules)

pub returns-in-Nothing : goal.returns-in-Nothing
returns-in-Nothing g c = rw (← c.self.view_is) (search rules)

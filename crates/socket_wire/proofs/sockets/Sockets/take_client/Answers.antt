use Rattle.std.proofs.Common.{rules}
use Rattle.socket_wire.proofs.sockets.Sockets.take_client.Goals as goal

pub returns-then-is_late : goal.returns-then-is_late
returns-then-is_late g c = rw (← c.self.view_is) (search rules)

pub returns-in-Ok : goal.returns-in-Ok
returns-in-Ok g c = rw (← c.self.view_is) (search rules)

pub returns-in-Err : goal.returns-in-Err
returns-in-Err g c = rw (← c.self.view_is) (search rules)

pub returns-in-Some-Done : goal.returns-in-Some-Done
returns-in-Some-Done g c = rw (← c.self.view_is) (search rules)

pub returns-in-Some-Nothing : goal.returns-in-Some-Nothing
returns-in-Some-Nothing g c = rw (← c.self.view_is) (search rules)

use Rattle.std.proofs.Common.{ap}
use Rattle.socket_wire.specs.History.{Life}
use Rattle.socket_wire.proofs.Lives.{gives_moment}
use Rattle.socket_wire.proofs.wire.MioWireWire.moment.Goals as goal

pub invariant_of-self : goal.invariant_of-self
invariant_of-self g c =
    let before : Life g.row.A.Denot = record {
      sockets = c.self.inside.sockets.sockets;
      started = c.self.inside.moments.started;
      last = c.self.inside.moments.last;
      is_read = c.self.inside.moments.is_read;
      log = c.self.inside.sockets.log;
      given = c.self.inside.moments.given.calls;
    } in
    let after : Life g.row.A.Denot = record {
      sockets = c.moment.new.self.sockets;
      started = c.moment.new.moments.started;
      last = c.moment.new.moments.last;
      is_read = c.moment.new.moments.is_read;
      log = c.moment.new.self.log;
      given = c.moment.new.moments.given.calls;
    } in
    let moments = c.moment.ensures.moments in
    λ few. gives_moment before after (rw c.moment.ensures.report at c.moment.ensures.reads)
    (rw c.moment.ensures.report at c.moment.ensures.notes) (ap (λ s. s.sockets) c.moment.ensures.rest)
    (ap (λ m. m.started) moments) (ap (λ m. m.is_read) moments)
    (ap (λ s. s.log) c.moment.ensures.rest) (c.self.invariant few)

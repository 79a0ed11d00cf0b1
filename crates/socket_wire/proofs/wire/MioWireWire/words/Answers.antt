use Rattle.std.proofs.Common.{refl}
use Rattle.socket_wire.specs.History.{Life}
use Rattle.socket_wire.proofs.Lives.{draws}
use Rattle.socket_wire.proofs.wire.MioWireWire.words.Goals as goal

pub invariant_of-self : goal.invariant_of-self
invariant_of-self g c =
    let before : Life g.row.A.Denot = record {
      sockets = c.self.inside.sockets.sockets;
      started = c.self.inside.moments.started;
      last = c.self.inside.moments.last;
      is_read = c.self.inside.moments.is_read;
      log = c.self.inside.sockets.log;
      given = c.self.inside.moments.given.calls;
    } in
    let after : Life g.row.A.Denot = record {
      sockets = c.words.new.self.sockets;
      started = c.self.inside.moments.started;
      last = c.self.inside.moments.last;
      is_read = c.self.inside.moments.is_read;
      log = c.words.new.self.log;
      given = c.self.inside.moments.given.calls;
    } in
    λ few. draws before after c.words.result c.words.ensures.gives c.words.ensures.notes
    c.words.ensures.rest refl refl refl refl (c.self.invariant few)

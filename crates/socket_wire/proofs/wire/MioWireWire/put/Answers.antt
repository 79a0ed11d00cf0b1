use Rattle.std.proofs.Common.{arith, is_ok, refl}
use Rattle.socket_wire.specs.History.{Life}
use Rattle.socket_wire.proofs.Lives.{acts}
use Rattle.socket_wire.proofs.wire.MioWireWire.put.Goals as goal

pub invariant_of-self-in-Ok : goal.invariant_of-self-in-Ok
invariant_of-self-in-Ok g c =
    let before : Life g.row.A.Denot = record {
      sockets = c.self.inside.sockets.sockets;
      started = c.self.inside.moments.started;
      last = c.self.inside.moments.last;
      is_read = c.self.inside.moments.is_read;
      log = c.self.inside.sockets.log;
      given = c.self.inside.moments.given.calls;
    } in
    let after : Life g.row.A.Denot = record {
      sockets = c.put.new.self.sockets;
      started = c.self.inside.moments.started;
      last = c.self.inside.moments.last;
      is_read = c.self.inside.moments.is_read;
      log = c.put.new.self.log;
      given = c.self.inside.moments.given.calls;
    } in
    λ few. acts before after c.args.action.now (is_ok c.put.result) c.put.ensures.puts
    c.put.ensures.notes refl refl refl refl (c.self.invariant few)

pub invariant_of-self-in-Err : goal.invariant_of-self-in-Err
invariant_of-self-in-Err g c =
    let before : Life g.row.A.Denot = record {
      sockets = c.self.inside.sockets.sockets;
      started = c.self.inside.moments.started;
      last = c.self.inside.moments.last;
      is_read = c.self.inside.moments.is_read;
      log = c.self.inside.sockets.log;
      given = c.self.inside.moments.given.calls;
    } in
    let after : Life g.row.A.Denot = record {
      sockets = c.put.new.self.sockets;
      started = c.self.inside.moments.started;
      last = c.self.inside.moments.last;
      is_read = c.self.inside.moments.is_read;
      log = c.put.new.self.log;
      given = c.self.inside.moments.given.calls;
    } in
    λ few. acts before after c.args.action.now (is_ok c.put.result) c.put.ensures.puts
    c.put.ensures.notes refl refl refl refl (c.self.invariant (omega (arith, few)))

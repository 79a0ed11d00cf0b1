use Rattle.std.proofs.Common.{◌<◌, ◌-◌, ◌^◌, refl, subst}
use Rattle.socket_wire.specs.History.{IsOfCalls}
use Rattle.socket_wire.specs.Seen.{SeenWire}
use Rattle.socket_wire.proofs.wire.MioWire.is_of_calls.Goals as goal

pub returns : goal.returns
returns g c =
    subst (λ (wire : SeenWire). wire.faults < 2 ^ 64 - 1 → IsOfCalls g.row.A.Denot wire) c.self.view_is
    (λ few. record {
      life = record {
        sockets = c.self.inside.sockets.sockets;
        started = c.self.inside.moments.started;
        last = c.self.inside.moments.last;
        is_read = c.self.inside.moments.is_read;
        log = c.self.inside.sockets.log;
        given = c.self.inside.moments.given.calls;
      };
      lives = c.self.invariant few;
      report = refl;
      calls = refl;
    })

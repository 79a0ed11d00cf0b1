use Rattle.std.proofs.Common.{◌<◌, ◌-◌, ◌^◌, ap, arith}
use Rattle.socket_wire.specs.History.{Life, Lives, reads_again}
use Rattle.socket_wire.proofs.Lives.{arrives, is_reported}
use Rattle.socket_wire.proofs.wire.MioWireWire.arrival.Goals.{in-Ok-Nothing, in_default, in_default-2}
use Rattle.socket_wire.proofs.wire.MioWireWire.arrival.Goals as goal

pub invariant_of-self-in-Ok-Nothing-came : goal.invariant_of-self-in-Ok-Nothing-came
invariant_of-self-in-Ok-Nothing-came g c =
    let before : Life g.row.A.Denot = record {
      sockets = c.self.inside.sockets.sockets;
      started = c.self.inside.moments.started;
      last = c.self.inside.moments.last;
      is_read = c.self.inside.moments.is_read;
      log = c.self.inside.sockets.log;
      given = c.self.inside.moments.given.calls;
    } in
    let once : Life g.row.A.Denot = record {
      sockets = c.arrival.new.self.sockets;
      started = c.arrival.new.moments.started;
      last = c.arrival.new.moments.last;
      is_read = c.arrival.new.moments.is_read;
      log = c.arrival.new.self.log;
      given = c.arrival.new.moments.given.calls;
    } in
    let moments = c.arrival.ensures.moments in
    let first : c.self.inside.faults < 2 ^ 64 - 1 → Lives once = λ few.
    arrives before once c.arrival.result c.arrival.ensures.turn c.arrival.ensures.notes
    (ap (λ m. m.started) moments) (ap (λ m. m.is_read) moments) (ap (λ m. m.given.calls) moments)
    (c.self.invariant few) in
    let after : Life g.row.A.Denot = record {
      sockets = c.match-arrival.self-inside.sockets.sockets;
      started = c.match-arrival.self-inside.moments.started;
      last = c.match-arrival.self-inside.moments.last;
      is_read = c.match-arrival.self-inside.moments.is_read;
      log = c.match-arrival.self-inside.sockets.log;
      given = c.match-arrival.self-inside.moments.given.calls;
    } in
    let lives : c.match-arrival.self-inside.faults < 2 ^ 64 - 1 → Lives after = elim c.match-arrival.branch [
      | in-Ok-Nothing w ↦ rw w.self-inside-is (λ few.
          is_reported once (record {
            sockets = w.reported-came.new.self.sockets;
            started = w.reported-came.new.moments.started;
            last = w.reported-came.new.moments.last;
            is_read = w.reported-came.new.moments.is_read;
            log = w.reported-came.new.self.log;
            given = w.reported-came.new.moments.given.calls;
          })
          w.reported-came.result w.reported-came.ensures.tries w.reported-came.ensures.notes
          (ap (λ m. m.started) w.reported-came.ensures.moments)
          (ap (λ m. m.is_read) w.reported-came.ensures.moments)
          (ap (λ m. m.given.calls) w.reported-came.ensures.moments) (first few))
      | in_default w ↦ rw w.self-inside-is first
      | in_default-2 w ↦ rw w.self-inside-is first
    ] in
    λ few. reads_again (λ i. record {
      sockets = c.match-arrival.self-inside.sockets.sockets;
      started = (c.read_again.ensures i).started;
      last = (c.read_again.ensures i).last;
      is_read = (c.read_again.ensures i).is_read;
      log = c.match-arrival.self-inside.sockets.log;
      given = (c.read_again.ensures i).given.calls;
    }) (lives few)

pub invariant_of-self-in-Ok : goal.invariant_of-self-in-Ok
invariant_of-self-in-Ok g c =
    let before : Life g.row.A.Denot = record {
      sockets = c.self.inside.sockets.sockets;
      started = c.self.inside.moments.started;
      last = c.self.inside.moments.last;
      is_read = c.self.inside.moments.is_read;
      log = c.self.inside.sockets.log;
      given = c.self.inside.moments.given.calls;
    } in
    let once : Life g.row.A.Denot = record {
      sockets = c.arrival.new.self.sockets;
      started = c.arrival.new.moments.started;
      last = c.arrival.new.moments.last;
      is_read = c.arrival.new.moments.is_read;
      log = c.arrival.new.self.log;
      given = c.arrival.new.moments.given.calls;
    } in
    let moments = c.arrival.ensures.moments in
    let first : c.self.inside.faults < 2 ^ 64 - 1 → Lives once = λ few.
    arrives before once c.arrival.result c.arrival.ensures.turn c.arrival.ensures.notes
    (ap (λ m. m.started) moments) (ap (λ m. m.is_read) moments) (ap (λ m. m.given.calls) moments)
    (c.self.invariant few) in
    let after : Life g.row.A.Denot = record {
      sockets = c.match-arrival.self-inside.sockets.sockets;
      started = c.match-arrival.self-inside.moments.started;
      last = c.match-arrival.self-inside.moments.last;
      is_read = c.match-arrival.self-inside.moments.is_read;
      log = c.match-arrival.self-inside.sockets.log;
      given = c.match-arrival.self-inside.moments.given.calls;
    } in
    let lives : c.match-arrival.self-inside.faults < 2 ^ 64 - 1 → Lives after = elim c.match-arrival.branch [
      | in-Ok-Nothing w ↦ rw w.self-inside-is (λ few.
          is_reported once (record {
            sockets = w.reported-came.new.self.sockets;
            started = w.reported-came.new.moments.started;
            last = w.reported-came.new.moments.last;
            is_read = w.reported-came.new.moments.is_read;
            log = w.reported-came.new.self.log;
            given = w.reported-came.new.moments.given.calls;
          })
          w.reported-came.result w.reported-came.ensures.tries w.reported-came.ensures.notes
          (ap (λ m. m.started) w.reported-came.ensures.moments)
          (ap (λ m. m.is_read) w.reported-came.ensures.moments)
          (ap (λ m. m.given.calls) w.reported-came.ensures.moments) (first few))
      | in_default w ↦ rw w.self-inside-is first
      | in_default-2 w ↦ rw w.self-inside-is first
    ] in
    lives

pub invariant_of-self-in-Err : goal.invariant_of-self-in-Err
invariant_of-self-in-Err g c =
    let before : Life g.row.A.Denot = record {
      sockets = c.self.inside.sockets.sockets;
      started = c.self.inside.moments.started;
      last = c.self.inside.moments.last;
      is_read = c.self.inside.moments.is_read;
      log = c.self.inside.sockets.log;
      given = c.self.inside.moments.given.calls;
    } in
    let once : Life g.row.A.Denot = record {
      sockets = c.arrival.new.self.sockets;
      started = c.arrival.new.moments.started;
      last = c.arrival.new.moments.last;
      is_read = c.arrival.new.moments.is_read;
      log = c.arrival.new.self.log;
      given = c.arrival.new.moments.given.calls;
    } in
    let moments = c.arrival.ensures.moments in
    let first : c.self.inside.faults < 2 ^ 64 - 1 → Lives once = λ few.
    arrives before once c.arrival.result c.arrival.ensures.turn c.arrival.ensures.notes
    (ap (λ m. m.started) moments) (ap (λ m. m.is_read) moments) (ap (λ m. m.given.calls) moments)
    (c.self.invariant few) in
    let after : Life g.row.A.Denot = record {
      sockets = c.match-arrival.self-inside.sockets.sockets;
      started = c.match-arrival.self-inside.moments.started;
      last = c.match-arrival.self-inside.moments.last;
      is_read = c.match-arrival.self-inside.moments.is_read;
      log = c.match-arrival.self-inside.sockets.log;
      given = c.match-arrival.self-inside.moments.given.calls;
    } in
    let lives : c.match-arrival.self-inside.faults < 2 ^ 64 - 1 → Lives after = elim c.match-arrival.branch [
      | in-Ok-Nothing w ↦ rw w.self-inside-is (λ few.
          is_reported once (record {
            sockets = w.reported-came.new.self.sockets;
            started = w.reported-came.new.moments.started;
            last = w.reported-came.new.moments.last;
            is_read = w.reported-came.new.moments.is_read;
            log = w.reported-came.new.self.log;
            given = w.reported-came.new.moments.given.calls;
          })
          w.reported-came.result w.reported-came.ensures.tries w.reported-came.ensures.notes
          (ap (λ m. m.started) w.reported-came.ensures.moments)
          (ap (λ m. m.is_read) w.reported-came.ensures.moments)
          (ap (λ m. m.given.calls) w.reported-came.ensures.moments) (first few))
      | in_default w ↦ rw w.self-inside-is first
      | in_default-2 w ↦ rw w.self-inside-is first
    ] in
    λ few. lives (omega (arith, few))

-- Sockets that may be ready, as contracts see them.
use Rattle.std.specs.Prelude.{ℕ, List}
use Rattle.mio.specs.declared.event.event.Event.{Event}
use Rattle.ready_sockets.specs.declared.readiness.Ready.{Ready}

-- The sockets that may be ready; the last turn: 1 to 4, and 0 before the first; and the events of
-- the last poll.
pub record SeenReadiness (A : Type 0) : Type 0 where
  pub ready : Ready A
  pub turn : ℕ
  pub events : List Event

-- A turn's look at the sockets that are ready.
use Rattle.std.specs.Prelude.{◌≡◌, ℕ, ◌-◌, ◌<◌, ◌≤◌, ◌||◌, Bool, true, false, length, nat_lt}
use Rattle.std.specs.Prelude.{List, [], Option, Some, None, Result, Ok, Err}
use Rattle.std.specs.declared.time.Instant.{Instant}
use Rattle.system_calls.specs.Call.{Call}
use Rattle.std.specs.declared.alloc.AllocError.{AllocError}
use Rattle.std.specs.BTreeSet.{btree_set_len}
use Rattle.wires.specs.declared.wire.Arrival.{Arrival}
use Rattle.wires.specs.declared.wire.Arrival.TheVariants.{Nothing}
use Rattle.socket_wire.specs.Seen.{SeenSockets}
use Rattle.socket_wire.specs.Arriving.{ReportsEnd}
use Rattle.socket_wire.specs.Attempting.{TriesReady}
use Rattle.socket_wire.specs.Moments.{ReadsClock}
use Rattle.ready_sockets.specs.Calling.{WaitsFor}
use Rattle.ready_sockets.specs.Trying.{IsNothing, NotedStay, NotesEach}
use Rattle.socket_wire.specs.Trying.{TriesOthers}

-- Events are taken by one poll, which waits for `pause` ms at most: the sockets reported by each
-- event are noted, more may be ready, and nothing else has changed, nor whose turn it is.
pub record TakesEvents {A : Type 0} (pause : ℕ) (before after : SeenSockets A) : Type 0 where
  pub waits : WaitsFor pause before.calls after.calls
  pub each : NotesEach after.readiness.events before.readiness.ready after.readiness.ready
  pub stay : NotedStay before.readiness.ready after.readiness.ready
  pub turn : after.readiness.turn ≡ before.readiness.turn
  pub rest : after ≡ record before { readiness = after.readiness; calls = after.calls }

-- They are taken at once where something may be ready; otherwise nothing has changed.
pub record TakesEventsIfReady {A : Type 0} (before after : SeenSockets A) : Type 0 where
  pub some : (IsNothing before.readiness.ready → ⊥) → TakesEvents 0 before after
  pub none : IsNothing before.readiness.ready → after ≡ before

-- A sweep of unreported sockets is due: they are tried after the reported ones.
pub record LooksAtAll {A : Type 0} (now : ℕ) (before after : SeenSockets A) : Type 0 where
  pub between : SeenSockets A
  pub events : TakesEventsIfReady (record before { tried = now }) between
  pub others : TriesOthers between after

-- whether a socket or a connection of an ask is open
abbrev pub has_asks : {A : Type 0} → SeenSockets A → Bool
has_asks sockets = nat_lt 0 (length sockets.asks.listed)
    || nat_lt 0 (length sockets.connections.servers)

-- If something may be ready, events are taken, at once, only if asks are open and none of them may
-- be ready.
pub record LooksForAsks {A : Type 0} (before after : SeenSockets A) : Type 0 where
  pub asks : btree_set_len before.readiness.ready.servers.tokens ≡ 0 → has_asks before ≡ true
      → TakesEvents 0 before after
  pub no_asks : has_asks before ≡ false → after ≡ before
  pub ready : 0 < btree_set_len before.readiness.ready.servers.tokens → after ≡ before

-- Looking for ready sockets, without a wait. If no sweep is due (every 5 ms), and nothing may be
-- ready, nothing has changed.
pub record Looks {A : Type 0} (now : ℕ) (before after : SeenSockets A) : Type 0 where
  pub due : 5 ≤ now - before.tried → LooksAtAll now before after
  pub none : now - before.tried < 5 → IsNothing before.readiness.ready → after ≡ before
  pub goes_on : now - before.tried < 5 → (IsNothing before.readiness.ready → ⊥)
      → LooksForAsks before after

-- The end of a turn without an arrival: the wire waits, for 5 ms at most, if nothing may be ready
-- any more.
pub record EndsTurn {A : Type 0} (before after : SeenSockets A) : Type 0 where
  pub more : (IsNothing before.readiness.ready → ⊥) → after ≡ before
  pub none : IsNothing before.readiness.ready → TakesEvents 5 before after

-- A turn gives its arrival or refusal, or ends without an arrival.
abbrev pub GivesOrEnds : {A : Type 0} → (came : Result (Option (Arrival A)) AllocError)
    → (result : Result (Arrival A) AllocError) → (before after : SeenSockets A) → Type 0
GivesOrEnds (Ok (Some arrival)) result before after = (result ≡ Ok arrival) × (after ≡ before)
GivesOrEnds (Ok None) result before after = (result ≡ Ok Nothing) × EndsTurn before after
GivesOrEnds (Err refusal) result before after = (result ≡ Err refusal) × (after ≡ before)

-- the result of a turn, by the arrival of what may be ready
abbrev pub given_of : {A : Type 0} → Result (Option (Arrival A)) AllocError
    → Result (Arrival A) AllocError
given_of (Ok (Some arrival)) = Ok arrival
given_of (Ok None) = Ok Nothing
given_of (Err refusal) = Err refusal

-- Trying what the events of a wait reported, without a wait.
pub record TriesReported {A : Type 0} (now : ℕ) (result : Result (Arrival A) AllocError)
    (before after : SeenSockets A) : Type 0 where
  pub came : Result (Option (Arrival A)) AllocError
  pub tries : TriesReady 64 now came before after
  pub gives : result ≡ given_of came

-- A turn looks for ready sockets, and then tries them. The wait is at its end alone, so arrivals
-- during the wait are tried at a later moment.
pub record TakesTurn {A : Type 0} (now : ℕ) (result : Result (Arrival A) AllocError)
    (before after : SeenSockets A) : Type 0 where
  pub came : Result (Option (Arrival A)) AllocError
  pub looked : SeenSockets A
  pub attempted : SeenSockets A
  pub looks : Looks now before looked
  pub tries : TriesReady 64 now came looked attempted
  pub ends : GivesOrEnds came result attempted after

-- If no end is to be reported, a turn is taken.
pub record TakesTurnAtOnce {A : Type 0} (now : ℕ) (result : Result (Arrival A) AllocError)
    (before after : SeenSockets A) : Type 0 where
  pub begun : SeenSockets A
  pub begins : begun ≡ record before {
    connections = record before.connections { has_room = begun.connections.has_room };
  }
  pub turn : TakesTurn now result begun after

-- The moment of a turn is read off the clock by one call. Then the end of a connection is reported,
-- or the turn is taken at this moment.
pub record TakesTurnAt {A : Type 0} (started : Instant) (last moment : ℕ)
    (result : Result (Arrival A) AllocError) (before after : SeenSockets A) : Type 0 where
  pub read : List Call
  pub reads : ReadsClock started last moment before.calls read
  pub end : ReportsEnd result (record before { calls = read }) after
  pub turn : before.connections.closed ≡ []
      → TakesTurnAtOnce moment result (record before { calls = read }) after

-- The moment after a wait is read off the clock by one call. Then what the events reported is tried.
pub record TriesReportedAt {A : Type 0} (started : Instant) (last moment : ℕ)
    (result : Result (Arrival A) AllocError) (before after : SeenSockets A) : Type 0 where
  pub read : List Call
  pub reads : ReadsClock started last moment before.calls read
  pub tries : TriesReported moment result (record before { calls = read }) after

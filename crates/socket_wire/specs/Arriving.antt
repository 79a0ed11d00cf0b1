-- The first arrival of a turn, and the connections of clients that are accepted.
use Rattle.std.specs.Prelude.{◌≡◌, ℕ, ◌+◌, ◌<◌, ◌≤◌, ◌⊎◌, List, [], ◌∷◌, ◌++◌, length, drop, slice_get}
use Rattle.std.specs.Prelude.{if◌then◌else◌, nat_lt}
use Rattle.std.specs.Prelude.{Bool, true, false, Some, None, is_some, Result, Ok, Err}
use Rattle.std.specs.declared.alloc.AllocError.{AllocError}
use Rattle.std.specs.Ordering.{nat_cmp}
use Rattle.std.specs.Map.{lookup}
use Rattle.std.specs.BTreeMap.{is_at}
use Rattle.step_values.specs.declared.Path.TheVariants as path
use Rattle.wires.specs.declared.wire.Arrival.{Arrival}
use Rattle.wires.specs.declared.wire.Arrival.TheVariants.{ClientClosed, PathGone}
use Rattle.std.specs.declared.io.Error.{Error}
use Rattle.std.specs.declared.net.socket_addr.SocketAddr.{SocketAddr}
use Rattle.system_calls.specs.Call.{Call, accept, set_no_delay, watch_stream}
use Rattle.system_calls.specs.declared.sockets.Stream.{Stream}
use Rattle.ready_sockets.specs.Calling.{Watches}
use Rattle.ready_sockets.specs.declared.origin.Origin.TheVariants as origin
use Rattle.stream_connections.specs.Answers.{refusal_of}
use Rattle.stream_connections.specs.declared.answers.Refusal.{Refusal}
use Rattle.stream_connections.specs.declared.answers.Refusal.TheVariants.{WouldBlock, Interrupted}
use Rattle.stream_connections.specs.declared.answers.Refusal.TheVariants.{NoDescriptor, Failed}
use Rattle.stream_connections.specs.declared.connections.Closed.{Closed}
use Rattle.stream_connections.specs.declared.connections.Closed.TheVariants.{Client, Server}
use Rattle.socket_wire.specs.Seen.{SeenSockets}
use Rattle.socket_wire.specs.declared.sockets.taking.Tried.{Tried}
use Rattle.socket_wire.specs.declared.sockets.taking.Tried.TheVariants.{Served, Nothing}
use Rattle.stream_connections.specs.Dropped.{with_dropped}
use Rattle.stream_connections.specs.Listed.{Admits, first_idle, first_resting}
use Rattle.stream_connections.specs.Open.{AreNone, Connections, without_first}
use Rattle.ready_sockets.specs.Trying.{IsBegun}

-- with a place for one client more: of 1,024, the oldest that waits for nothing goes
abbrev pub with_place : {A : Type 0} → Connections A → Connections A
with_place before = if nat_lt (length before.clients) 1024 then before
    else without_first (first_idle before.clients) before

-- The calls for a new connection, after that which has small writes sent without delay.
abbrev pub WatchesClient : (number : ℕ) → Stream → (is_prompt : Result (Unit {0}) Error)
    → (before after : List Call) → Type 0
WatchesClient number stream (Ok _) before after =
    (watched : Result (Unit {0}) Error)
    × Watches (origin.Client number) (λ token interest. watch_stream stream token interest watched) before after
WatchesClient number stream (Err _) before after = after ≡ before

-- The calls for a new connection that is left out: none; or small writes are sent without delay,
-- and unless the system refused that, it is watched by its number.
abbrev pub Prepares : (number : ℕ) → Stream → (before after : List Call) → Type 0
Prepares number stream before after =
    (after ≡ before)
    ⊎ ((is_prompt : Result (Unit {0}) Error)
    × WatchesClient number stream is_prompt (before ++ set_no_delay stream is_prompt ∷ []) after)

-- A connection is listed under the next number, which was never given before. The system sends its
-- small writes without delay, and watches it by its number.
pub record IsTakenIn {A : Type 0} (stream : Stream) (number now : ℕ) (calls calls' : List Call)
    (before : Connections A) (next : ℕ) (after : Connections A) : Type 0 where
  pub given : next ≡ number + 1
  pub watches : Watches (origin.Client number)
      (λ token interest. watch_stream stream token interest (Ok tt))
      (calls ++ set_no_delay stream (Ok tt) ∷ []) calls'
  pub listed : Admits number stream now before.clients after.clients
  pub rest : after ≡ record before {
    clients = after.clients;
    has_room = after.has_room;
    gone_clients = with_dropped (lookup (is_at (nat_cmp number)) before.clients)
        before.gone_clients;
  }

-- No connection is listed.
pub record IsLeftOut {A : Type 0} (stream : Stream) (number : ℕ) (calls calls' : List Call)
    (before : Connections A) (next : ℕ) (after : Connections A) : Type 0 where
  pub above : number ≤ next
  pub below : next ≤ number + 1
  pub prepares : Prepares number stream calls calls'
  pub rest : after ≡ record before { has_room = after.has_room }

-- A client's connection is accepted: it is listed, or left out.
abbrev pub Comes : {A : Type 0} → Stream → (number now : ℕ) → (calls calls' : List Call)
    → Connections A → (next : ℕ) → Connections A → Type 0
Comes stream number now calls calls' before next after =
    IsTakenIn stream number now calls calls' before next after
    ⊎ IsLeftOut stream number calls calls' before next after

-- A client's connection joins the sockets. If there are 1,024 and each waits for something, nothing
-- changes.
pub record TakesIn {A : Type 0} (stream : Stream) (now : ℕ) (before after : SeenSockets A) : Type 0 where
  pub full : 1024 ≤ length before.connections.clients → first_idle before.connections.clients ≡ None
      → after ≡ before
  pub comes : Comes stream before.numbers.next now before.calls after.calls
      (with_place before.connections) after.numbers.next after.connections
  pub rest : after ≡ record before {
    connections = after.connections;
    numbers = after.numbers;
    calls = after.calls;
  }

-- The oldest client that has waited for nothing for a while is closed; nothing else changes.
pub record ClosesResting {A : Type 0} (now : ℕ) (before after : SeenSockets A) : Type 0 where
  pub one : is_some (first_resting now before.connections.clients) ≡ true
  pub closed : after ≡ record before {
    connections = without_first (first_resting now before.connections.clients) before.connections;
  }

-- A resting client may be closed if no descriptor is left; otherwise nothing changes.
abbrev pub MayCloseResting : {A : Type 0} → (now : ℕ) → (is_closed : Bool)
    → (before after : SeenSockets A) → Type 0
MayCloseResting now true before after = ClosesResting now before after
MayCloseResting now false before after = after ≡ before

-- The consequence of a refused call. If no descriptor is left, the oldest client that has waited
-- for nothing for a while is closed, if any. For any other reason, such as a taken port or an
-- unreachable network, nothing changes.
abbrev pub FreesFor : {A : Type 0} → Refusal → (now : ℕ) → (is_closed : Bool)
    → (before after : SeenSockets A) → Type 0
FreesFor NoDescriptor now is_closed before after =
    (is_closed ≡ is_some (first_resting now before.connections.clients)) × (after ≡ record before {
      connections = without_first (first_resting now before.connections.clients) before.connections;
    })
FreesFor WouldBlock now is_closed before after = (is_closed ≡ false) × (after ≡ before)
FreesFor Interrupted now is_closed before after = (is_closed ≡ false) × (after ≡ before)
FreesFor Failed now is_closed before after = (is_closed ≡ false) × (after ≡ before)

-- The consequence of a call, by its answer: none, unless refused.
abbrev pub FreesBy : {A T : Type 0} → Result T Error → (now : ℕ) → (is_closed : Bool)
    → (before after : SeenSockets A) → Type 0
FreesBy (Ok value) now is_closed before after = (is_closed ≡ false) × (after ≡ before)
FreesBy (Err error) now is_closed before after = FreesFor (refusal_of error) now is_closed before
    after

-- the result of a listener that refused: after a freed descriptor, the next turn may have a
-- connection
abbrev pub tried_if : {A : Type 0} → (is_closed : Bool) → Tried A
tried_if true = Served
tried_if false = Nothing

-- Trying the listener, by its answer: a connection is accepted. Or the listener refuses, and a
-- descriptor is freed only if none is left.
abbrev pub AcceptsBy : {A : Type 0} → Result (Stream × SocketAddr) Error → (now : ℕ) → Tried A
    → (before after : SeenSockets A) → Type 0
AcceptsBy (Ok accepted) now tried before after =
    (tried ≡ Served) × TakesIn accepted.0 now before after
AcceptsBy (Err error) now tried before after =
    (is_closed : Bool) × (tried ≡ tried_if is_closed)
    × FreesFor (refusal_of error) now is_closed before after

-- Trying the listener, by one call: a connection is accepted, or the descriptor of another is freed
-- for it; otherwise nothing changes.
pub record TakesConnection {A : Type 0} (now : ℕ) (tried : Tried A) (before after : SeenSockets A)
    : Type 0 where
  pub answer : Result (Stream × SocketAddr) Error
  pub accepts : AcceptsBy answer now tried
      (record before { calls = before.calls ++ accept before.listener answer ∷ [] }) after

-- New sockets: the two for clients alone, and no number was given.
pub record AreNew {A : Type 0} (sockets : SeenSockets A) : Type 0 where
  pub ready : IsBegun sockets.readiness.ready
  pub connections : AreNone sockets.connections
  pub asks : sockets.asks ≡ record { listed = []; gone = [] }
  pub numbers : sockets.numbers.next ≡ 0

-- the arrival that reports the end of a connection
abbrev pub report : {A : Type 0} → Closed → Arrival A
report (Client conn) = ClientClosed conn
report (Server conn) = PathGone (path.Tcp conn)

-- The next end to report arrives, if any; nothing else changes then.
pub record ReportsEnd {A : Type 0} (result : Result (Arrival A) AllocError)
    (before after : SeenSockets A) : Type 0 where
  pub reports : (ended : Closed) → slice_get before.connections.closed 0 ≡ Some ended
      → result ≡ Ok (report ended)
  pub once : 0 < length before.connections.closed
      → after ≡ record before {
        connections = record before.connections {
          closed = drop 1 before.connections.closed;
          has_room = after.connections.has_room;
        };
      }

-- Sockets that may be ready are tried, with the result of each.
use Rattle.std.specs.Prelude.{◌≡◌, ℕ, zero, suc, Option, Some, None, Result, Ok, Err}
use Rattle.std.specs.declared.alloc.AllocError.{AllocError}
use Rattle.wires.specs.declared.wire.Arrival.{Arrival}
use Rattle.wires.specs.declared.wire.Arrival.TheVariants as arrival
use Rattle.ready_sockets.specs.declared.origin.Origin.{Origin}
use Rattle.ready_sockets.specs.declared.origin.Origin.TheVariants.{Datagrams, Connections, Client}
use Rattle.ready_sockets.specs.declared.origin.Origin.TheVariants.{Ask, Server}
use Rattle.socket_wire.specs.Seen.{SeenSockets}
use Rattle.socket_wire.specs.declared.sockets.taking.Tried.{Tried}
use Rattle.socket_wire.specs.declared.sockets.taking.Tried.TheVariants.{Arrived, Served, Nothing}
use Rattle.socket_wire.specs.Arriving.{TakesConnection}
use Rattle.ready_sockets.specs.Trying.{Dropped, Finds}
use Rattle.socket_wire.specs.Taking.{TakesAsk, TakesClient, TakesDatagram, TakesServer}

-- Trying the listener. It does not allocate.
abbrev pub TakesOfListener : {A : Type 0} → (now : ℕ) → Result (Tried A) AllocError
    → (before after : SeenSockets A) → Type 0
TakesOfListener now (Ok tried) before after = TakesConnection now tried before after
TakesOfListener now (Err refusal) before after = ⊥

-- Trying this socket, with its result.
abbrev pub Attempts : {A : Type 0} → Origin → (now : ℕ) → Result (Tried A) AllocError
    → (before after : SeenSockets A) → Type 0
Attempts Datagrams now result before after = TakesDatagram result before after
Attempts Connections now result before after = TakesOfListener now result before after
Attempts (Client conn) now result before after = TakesClient conn now result before after
Attempts (Ask port) now result before after = TakesAsk port result before after
Attempts (Server conn) now result before after = TakesServer conn result before after

-- The next of what may be ready is given.
pub record GivesNext {A : Type 0} (given : Option Origin) (before after : SeenSockets A)
    : Type 0 where
  pub finds : Finds 4 given before.readiness.turn after.readiness.turn before.readiness.ready
      after.readiness.ready
  pub rest : after ≡ record before {
    readiness = record before.readiness
        { turn = after.readiness.turn; ready = after.readiness.ready };
  }

-- A socket is noted as ready no longer, and nothing else changes.
pub record Drops {A : Type 0} (origin : Origin) (before after : SeenSockets A) : Type 0 where
  pub dropped : Dropped origin before.readiness.ready after.readiness.ready
  pub rest : after ≡ record before
      { readiness = record before.readiness { ready = after.readiness.ready } }

-- A socket in which nothing was is noted no longer, and the next is tried.
pub record GoesOn {A : Type 0} (origin : Origin) (Later : SeenSockets A → Type 0)
    (before : SeenSockets A) : Type 0 where
  pub left : SeenSockets A
  pub drops : Drops origin before left
  pub later : Later left

-- The result of trying this socket: its arrival; or nothing yet, although served. The socket stays
-- noted in both cases. If nothing was there, the next socket is tried.
abbrev pub ComesOf : {A : Type 0} → (tried : Result (Tried A) AllocError) → Origin
    → (result : Result (Option (Arrival A)) AllocError) → (Later : SeenSockets A → Type 0)
    → (before after : SeenSockets A) → Type 0
ComesOf (Ok (Arrived arrived)) origin result Later before after = (result ≡ Ok (Some arrived))
    × (after ≡ before)
ComesOf (Ok Served) origin result Later before after = (result ≡ Ok (Some arrival.Nothing))
    × (after ≡ before)
ComesOf (Ok Nothing) origin result Later before after = GoesOn origin Later before
ComesOf (Err refusal) origin result Later before after = (result ≡ Err refusal) × (after ≡ before)

-- The given socket is tried, with its result.
pub record TriesGiven {A : Type 0} (origin : Origin) (now : ℕ)
    (result : Result (Option (Arrival A)) AllocError) (Later : SeenSockets A → Type 0)
    (before after : SeenSockets A) : Type 0 where
  pub tried : Result (Tried A) AllocError
  pub attempted : SeenSockets A
  pub attempts : Attempts origin now tried before attempted
  pub comes : ComesOf tried origin result Later attempted after

-- The given socket is tried; without one, none is ready any more.
abbrev pub TriesIfGiven : {A : Type 0} → Option Origin → (now : ℕ)
    → (result : Result (Option (Arrival A)) AllocError) → (Later : SeenSockets A → Type 0)
    → (before after : SeenSockets A) → Type 0
TriesIfGiven None now result Later before after = (result ≡ Ok None) × (after ≡ before)
TriesIfGiven (Some origin) now result Later before after = TriesGiven origin now result Later before
    after

-- The next is given, and tried.
pub record TriesNext {A : Type 0} (now : ℕ) (result : Result (Option (Arrival A)) AllocError)
    (Later : SeenSockets A → Type 0) (before after : SeenSockets A) : Type 0 where
  pub given : Option Origin
  pub between : SeenSockets A
  pub gives : GivesNext given before between
  pub tries : TriesIfGiven given now result Later between after

-- At most `most` sockets that may be ready are tried in order, up to the first that gives
-- something.
unfoldable pub TriesReady : {A : Type 0} → (most now : ℕ)
    → (result : Result (Option (Arrival A)) AllocError) → (before after : SeenSockets A) → Type 0
TriesReady zero now result before after = (result ≡ Ok None) × (after ≡ before)
TriesReady (suc more) now result before after =
    TriesNext now result (λ left. TriesReady more now result left after) before after

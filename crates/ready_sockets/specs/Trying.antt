-- Sockets that may be ready, by their tokens, and the next to try.
use Rattle.std.specs.Prelude.{◌≡◌, ℕ, zero, suc, ◌+◌, ◌%◌, if◌then◌else◌, is_some, ◌-◌, ◌^◌, ◌⊎◌}
use Rattle.std.specs.Prelude.{min, true, false}
use Rattle.std.specs.Prelude.{List, [], ◌∷◌, Option, Some, None, filter, slice_get, unwrap_or}
use Rattle.std.specs.Ordering.{nat_cmp}
use Rattle.std.specs.declared.ops.Bound.TheVariants.{Included, Unbounded}
use Rattle.std.specs.Set.{remove_key}
use Rattle.std.specs.BTreeMap.{is_at}
use Rattle.std.specs.BTreeMap.Range.{range_contains}
use Rattle.std.specs.BTreeSet.{btree_set_len, insert_key}
use Rattle.mio.specs.declared.event.event.Event.{Event}
use Rattle.mio.specs.Event.{event_token}
use Rattle.ready_sockets.specs.declared.origin.Origin.{Origin}
use Rattle.ready_sockets.specs.declared.origin.Origin.TheVariants.{Datagrams, Connections, Client}
use Rattle.ready_sockets.specs.declared.origin.Origin.TheVariants.{Ask, Server}
use Rattle.ready_sockets.specs.declared.readiness.Tokens.{Tokens}
use Rattle.ready_sockets.specs.declared.readiness.Ready.{Ready}
use Rattle.ready_sockets.specs.Tokens.{HasToken, token_of}

-- The number is among these.
abbrev pub IsAmong : ℕ → List ℕ → Type 0
IsAmong number [] = ⊥
IsAmong number (first ∷ later) = (first ≡ number) ⊎ IsAmong number later

-- this token, if any; otherwise the first of these
abbrev pub first_of : Option ℕ → List ℕ → Option ℕ
first_of (Some token) tokens = Some token
first_of None tokens = slice_get tokens 0

-- the token after the last tried one; after the last of the list the first
abbrev pub next_token : ℕ → List ℕ → Option ℕ
next_token last tokens = first_of (slice_get
    (filter (range_contains nat_cmp (Included (min (last + 1) (2 ^ 64 - 1))) Unbounded) tokens) 0)
    tokens

-- A token is no longer among these.
pub record Loses {A : Type 0} (token : ℕ) (before after : Tokens A) : Type 0 where
  pub last : after.last ≡ before.last
  pub tokens : after.tokens.keys ≡ remove_key (is_at (nat_cmp token)) before.tokens.keys

-- A token is among these, unless memory ran out; then nothing has changed.
pub record Gains {A : Type 0} (token : ℕ) (before after : Tokens A) : Type 0 where
  pub last : after.last ≡ before.last
  pub tokens : (after.tokens.keys ≡ insert_key nat_cmp before.tokens.keys token)
      ⊎ (after.tokens.keys ≡ before.tokens.keys)

-- These tokens give the next socket, which is then the last tried.
pub record Gives {A : Type 0} (given : Option Origin) (before after : Tokens A) : Type 0 where
  pub tried : after ≡ record before
      { last = unwrap_or (next_token before.last before.tokens.keys) before.last }
  pub next : (origin : Origin) → HasToken origin → next_token before.last before.tokens.keys
      ≡ Some (token_of origin)
      → given ≡ Some origin
  pub none : next_token before.last before.tokens.keys ≡ None → given ≡ None

-- The tokens of clients' streams have changed like this, and nothing else.
abbrev pub InStreams : {A : Type 0} → (Tokens A → Tokens A → Type 0) → Ready A → Ready A → Type 0
InStreams Changes before after = Changes before.streams after.streams
    × (after.datagrams ≡ before.datagrams)
    × (after.servers ≡ before.servers)

-- The tokens of the sockets of asks have changed like this, and nothing else.
abbrev pub InServers : {A : Type 0} → (Tokens A → Tokens A → Type 0) → Ready A → Ready A → Type 0
InServers Changes before after = Changes before.servers after.servers
    × (after.datagrams ≡ before.datagrams)
    × (after.streams ≡ before.streams)

-- Nothing may be ready.
abbrev pub IsNothing : {A : Type 0} → Ready A → Type 0
IsNothing ready = (ready.datagrams ≡ false) × (btree_set_len ready.streams.tokens ≡ 0)
    × (btree_set_len ready.servers.tokens ≡ 0)

-- The socket for datagrams may be ready, and nothing else.
abbrev pub HasDatagramsAlone : {A : Type 0} → Ready A → Type 0
HasDatagramsAlone ready = (ready.datagrams ≡ true) × (btree_set_len ready.streams.tokens ≡ 0)
    × (btree_set_len ready.servers.tokens ≡ 0)

-- As it begins only the socket for datagrams may be ready.
pub record IsBegun {A : Type 0} (ready : Ready A) : Type 0 where
  pub datagrams : ready.datagrams ≡ true
  pub streams : ready.streams.tokens.keys ≡ []
  pub servers : ready.servers.tokens.keys ≡ []

-- A socket is noted as ready.
abbrev pub Noted : {A : Type 0} → Origin → Ready A → Ready A → Type 0
Noted Datagrams before after = after ≡ record before { datagrams = true }
Noted Connections before after = InStreams (Gains (token_of Connections)) before after
Noted (Client conn) before after = InStreams (Gains (token_of (Client conn))) before after
Noted (Ask port) before after = InServers (Gains (token_of (Ask port))) before after
Noted (Server conn) before after = InServers (Gains (token_of (Server conn))) before after

-- Tokens that were noted are noted still.
pub record TokensStay {A : Type 0} (before after : Tokens A) : Type 0 where
  pub last : after.last ≡ before.last
  pub tokens : (token : ℕ) → IsAmong token before.tokens.keys → IsAmong token after.tokens.keys

-- Sockets that were noted as ready are noted still.
pub record NotedStay {A : Type 0} (before after : Ready A) : Type 0 where
  pub datagrams : before.datagrams ≡ true → after.datagrams ≡ true
  pub streams : TokensStay before.streams after.streams
  pub servers : TokensStay before.servers after.servers

-- The socket that the event reports is noted. The token of no socket notes none.
pub record NotesEvent {A : Type 0} (event : Event) (before after : Ready A) : Type 0 where
  pub noted : (origin : Origin) → HasToken origin → token_of origin ≡ (event_token event).0
      → Noted origin before after
  pub stay : NotedStay before after

-- Each socket that these events report is noted, in their order.
abbrev pub NotesEach : {A : Type 0} → List Event → Ready A → Ready A → Type 0
NotesEach [] before after = after ≡ before
NotesEach {A} (event ∷ later) before after =
    (between : Ready A) × NotesEvent event before between × NotesEach later between after

-- The socket is noted no longer.
abbrev pub Dropped : {A : Type 0} → Origin → Ready A → Ready A → Type 0
Dropped Datagrams before after = after ≡ record before { datagrams = false }
Dropped Connections before after = InStreams (Loses (token_of Connections)) before after
Dropped (Client conn) before after = InStreams (Loses (token_of (Client conn))) before after
Dropped (Ask port) before after = InServers (Loses (token_of (Ask port))) before after
Dropped (Server conn) before after = InServers (Loses (token_of (Server conn))) before after

-- The socket given on a turn: on the first of four clients' datagrams, on the third clients'
-- streams, on the second and fourth asks.
pub record GivesOnTurn {A : Type 0} (turn : ℕ) (given : Option Origin)
    (before after : Ready A) : Type 0 where
  pub datagrams : turn ≡ 1 → (given ≡ (if before.datagrams then Some Datagrams else None))
      × (after ≡ before)
  pub streams : turn ≡ 3 → InStreams (Gives given) before after
  pub servers : turn % 2 ≡ 0 → InServers (Gives given) before after

-- A socket is given on the next turn.
pub record FindsNow {A : Type 0} (given : Option Origin) (turn turn' : ℕ)
    (before after : Ready A) : Type 0 where
  pub turns : turn' ≡ turn % 4 + 1
  pub gives : GivesOnTurn turn' given before after
  pub some : is_some given ≡ true

-- In `tries` consecutive turns, the first that gives a socket gives the next; none if no turn does.
abbrev pub Finds : {A : Type 0} → (tries : ℕ) → Option Origin → (turn turn' : ℕ) → Ready A → Ready A
    → Type 0
Finds zero given turn turn' before after = (given ≡ None) × (turn' ≡ turn) × (after ≡ before)
Finds {A} (suc tries) given turn turn' before after =
    FindsNow given turn turn' before after ⊎ ((between : Ready A)
    × (GivesOnTurn (turn % 4 + 1) None before between
    × Finds tries given (turn % 4 + 1) turn' between after))

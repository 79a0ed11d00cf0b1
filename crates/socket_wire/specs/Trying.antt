-- The sockets that are tried in turn, whatever the events reported.
use Rattle.std.specs.Prelude.{◌≡◌, ◌≢◌, ℕ, zero, suc, ◌+◌, ◌%◌, ◌^◌, ◌⊎◌, is_some, Bool, true}
use Rattle.std.specs.Prelude.{false, Option, Some, None}
use Rattle.ready_sockets.specs.declared.origin.Origin.{Origin}
use Rattle.ready_sockets.specs.declared.origin.Origin.TheVariants.{Datagrams, Client, Ask, Server}
use Rattle.ready_sockets.specs.declared.origin.Origin.TheVariants.{Connections as Listener}
use Rattle.ready_sockets.specs.declared.readiness.Ready.{Ready}
use Rattle.socket_wire.specs.Seen.{SeenSockets}
use Rattle.stream_connections.specs.Listed.{first_number}
use Rattle.ready_sockets.specs.Trying.{Noted}

-- the beginning of the next turn: one after the found number; 0 after the last and at `size`
abbrev pub next_from : (size : ℕ) → Option ℕ → ℕ
next_from size (Some number) = (number + 1) % size
next_from size None = 0

-- The socket that was found is noted as ready.
abbrev pub NotesFirst : {A : Type 0} → (ℕ → Origin) → Option ℕ → (before after : Ready A) → Type 0
NotesFirst origin (Some number) before after = Noted (origin number) before after
NotesFirst origin None before after = after ≡ before

-- the client whose turn it is
abbrev pub client_in_turn : {A : Type 0} → SeenSockets A → Option ℕ
client_in_turn sockets = first_number sockets.next_client sockets.connections.clients

-- the port of the ask whose turn it is
abbrev pub ask_in_turn : {A : Type 0} → SeenSockets A → Option ℕ
ask_in_turn sockets = first_number sockets.next_ask sockets.asks.listed

-- the connection to a server whose turn it is
abbrev pub server_in_turn : {A : Type 0} → SeenSockets A → Option ℕ
server_in_turn sockets = first_number sockets.next_server sockets.connections.servers

-- Trying the next client.
pub record TriesClient {A : Type 0} (tried : Bool) (before after : SeenSockets A) : Type 0 where
  pub one : tried ≡ is_some (client_in_turn before)
  pub next : after.next_client ≡ next_from (2 ^ 64) (client_in_turn before)
  pub tries : NotesFirst Client (client_in_turn before) before.readiness.ready after.readiness.ready
  pub rest : after ≡ record before {
    next_client = after.next_client;
    readiness = record before.readiness { ready = after.readiness.ready };
  }

-- Trying the socket of the next ask.
pub record TriesAsk {A : Type 0} (tried : Bool) (before after : SeenSockets A) : Type 0 where
  pub one : tried ≡ is_some (ask_in_turn before)
  pub next : after.next_ask ≡ next_from (2 ^ 16) (ask_in_turn before)
  pub tries : NotesFirst Ask (ask_in_turn before) before.readiness.ready after.readiness.ready
  pub rest : after ≡ record before {
    next_ask = after.next_ask;
    readiness = record before.readiness { ready = after.readiness.ready };
  }

-- Trying the connection of the next ask.
pub record TriesServer {A : Type 0} (tried : Bool) (before after : SeenSockets A) : Type 0 where
  pub one : tried ≡ is_some (server_in_turn before)
  pub next : after.next_server ≡ next_from (2 ^ 64) (server_in_turn before)
  pub tries : NotesFirst Server (server_in_turn before) before.readiness.ready after.readiness.ready
  pub rest : after ≡ record before {
    next_server = after.next_server;
    readiness = record before.readiness { ready = after.readiness.ready };
  }

-- At most `most` tries in order; none after a try that found none.
unfoldable pub TriesUpTo : {S : Type 0} → (Tries : Bool → S → S → Type 0) → (most : ℕ)
    → (before after : S) → Type 0
TriesUpTo Tries zero before after = after ≡ before
TriesUpTo {S} Tries (suc more) before after =
    Tries false before after
    ⊎ ((between : S) × (Tries true before between × TriesUpTo Tries more between after))

-- A sweep counts itself, and has the socket for datagrams tried, and in an eighth sweep the
-- listener.
pub record BeginsSweep {A : Type 0} (before after : SeenSockets A) : Type 0 where
  pub between : Ready A
  pub datagrams : Noted Datagrams before.readiness.ready between
  pub eighth : after.sweeps % 8 ≡ 0 → Noted Listener between after.readiness.ready
  pub others : after.sweeps % 8 ≢ 0 → after.readiness.ready ≡ between
  pub rest : after ≡ record before {
    sweeps = (before.sweeps + 1) % 2 ^ 8;
    readiness = record before.readiness { ready = after.readiness.ready };
  }

-- A sweep: then up to twenty clients, twenty sockets of asks and twenty connections of asks are
-- tried.
pub record TriesOthers {A : Type 0} (before after : SeenSockets A) : Type 0 where
  pub begun : SeenSockets A
  pub after_clients : SeenSockets A
  pub after_asks : SeenSockets A
  pub begins : BeginsSweep before begun
  pub clients : TriesUpTo TriesClient 20 begun after_clients
  pub asks : TriesUpTo TriesAsk 20 after_clients after_asks
  pub servers : TriesUpTo TriesServer 20 after_asks after

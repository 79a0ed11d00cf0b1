-- Reading the sockets of clients and of asks.
use Rattle.std.specs.Prelude.{◌≡◌, ℕ, ◌≤◌, length, Bool, true, false, not, ◌||◌, if◌then◌else◌}
use Rattle.std.specs.Prelude.{is_ok, List, [], ◌∷◌, ◌++◌, take, Option, Some, None, Result, Ok, Err}
use Rattle.std.specs.Ordering.{nat_cmp}
use Rattle.std.specs.Map.{lookup}
use Rattle.std.specs.BTreeMap.{is_at}
use Rattle.system_calls.specs.Call.{receive}
use Rattle.system_calls.specs.declared.sockets.DatagramSocket.{DatagramSocket}
use Rattle.std.specs.declared.alloc.AllocError.{AllocError}
use Rattle.step_values.specs.declared.Path.TheVariants as path
use Rattle.socket_wire.specs.Asks.{SeenAsks, without_ask}
use Rattle.socket_wire.specs.Seen.{SeenSockets}
use Rattle.std.specs.declared.io.Error.{Error}
use Rattle.suffix_routes.specs.declared.peer.Peer.{Peer}
use Rattle.wires.specs.declared.wire.Arrival.{Arrival}
use Rattle.wires.specs.declared.wire.Arrival.TheVariants.{ClientDatagram}
use Rattle.wires.specs.declared.wire.Arrival.TheVariants.{ClientStream as ArrivesOfClient}
use Rattle.wires.specs.declared.wire.Arrival.TheVariants.{ServerDatagram, ServerStream, PathGone}
use Rattle.stream_connections.specs.declared.client_stream.ClientStream.{ClientStream}
use Rattle.stream_connections.specs.Answers.{refusal_of}
use Rattle.stream_connections.specs.declared.answers.Heard.{Heard}
use Rattle.stream_connections.specs.declared.connections.ServerHeard.{ServerHeard}
use Rattle.stream_connections.specs.declared.answers.Heard.TheVariants as heard
use Rattle.stream_connections.specs.declared.answers.Refusal.{Refusal}
use Rattle.stream_connections.specs.declared.answers.Refusal.TheVariants.{WouldBlock, Interrupted}
use Rattle.stream_connections.specs.declared.answers.Refusal.TheVariants.{NoDescriptor, Failed}
use Rattle.std.specs.declared.net.socket_addr.SocketAddr.{SocketAddr}
use Rattle.socket_wire.specs.Addresses.{peer_at}
use Rattle.socket_wire.specs.declared.sockets.taking.Tried.{Tried}
use Rattle.socket_wire.specs.declared.sockets.taking.Tried.TheVariants.{Arrived, Served, Nothing}
use Rattle.stream_connections.specs.declared.servers.ServerStream.{ServerStream as ServerConnection}
use Rattle.stream_connections.specs.Listed.{ServesOn, is_late_on}
use Rattle.stream_connections.specs.Open.{Connections, ServesServer, without_client, without_server}

-- These are the first `count` octets of the buffer, if the buffer has as many.
abbrev pub IsPiece : (count : ℕ) (buffer octets : List ℕ) → Type 0
IsPiece count buffer octets = count ≤ length buffer → octets ≡ take count buffer

-- A datagram arrives from this peer with the received octets at the buffer's front, unless memory
-- ran out. A datagram without a peer, over IPv6, does not.
abbrev pub IsReceived : {A : Type 0} → (count : ℕ) → Option Peer → (buffer : List ℕ)
    → (Peer → List ℕ → Arrival A)
    → Result (Tried A) AllocError → Type 0
IsReceived count (Some from) buffer carrying (Ok tried) = tried
    ≡ Arrived (carrying from (take count buffer))
IsReceived count (Some from) buffer carrying (Err _) = Unit {0}
IsReceived count None buffer carrying result = result ≡ Ok Served

-- The result of reading the socket for clients' datagrams, by its answer: a datagram; or nothing if
-- refused, whatever the reason.
abbrev pub HearsDatagram : {A : Type 0} → Result (ℕ × SocketAddr) Error → (buffer : List ℕ)
    → Result (Tried A) AllocError → Type 0
HearsDatagram (Ok (count, from)) buffer result = IsReceived count (peer_at from) buffer
    ClientDatagram result
HearsDatagram (Err error) buffer result = result ≡ Ok Nothing

-- The socket for clients' datagrams is read by one call, and its answer decides. No connection, no
-- ask and no number changes.
pub record TakesDatagram {A : Type 0} (result : Result (Tried A) AllocError)
    (before after : SeenSockets A) : Type 0 where
  pub answer : Result (ℕ × SocketAddr) Error
  pub hears : HearsDatagram answer after.buffer result
  pub rest : after ≡ record before {
    buffer = after.buffer;
    calls = before.calls ++ receive before.datagrams after.buffer answer ∷ [];
  }

-- The arrival of the client with this number: the octets that were heard, unless memory ran out.
abbrev pub Arrives : {A : Type 0} → (conn : ℕ) (buffer : List ℕ) → Option Heard
    → Result (Tried A) AllocError → Type 0
Arrives conn buffer (Some (heard.Octets count)) (Ok tried) = tried
    ≡ Arrived (ArrivesOfClient conn (take count buffer))
Arrives conn buffer (Some (heard.Octets count)) (Err _) = Unit {0}
Arrives conn buffer (Some heard.Nothing) result = result ≡ Ok Nothing
Arrives conn buffer (Some heard.Done) result = result ≡ Ok Served
Arrives conn buffer (Some heard.Failed) result = result ≡ Ok Served
Arrives conn buffer None result = result ≡ Ok Nothing

-- What arrives, unless the client has been silent for too long even so: then nothing arrives.
abbrev pub ArrivesUnless : {A : Type 0} → (late : Bool) → (conn : ℕ) (buffer : List ℕ) → Option Heard
    → Result (Tried A) AllocError → Type 0
ArrivesUnless true conn buffer heard result = result ≡ Ok Served
ArrivesUnless false conn buffer heard result = Arrives conn buffer heard result

-- whether a client is closed after a read with this result: one whose octets found no memory can't
-- go on
abbrev pub is_closed_then : Option Heard → Bool → Bool
is_closed_then (Some (heard.Octets _)) found_memory = not found_memory
is_closed_then (Some heard.Nothing) found_memory = false
is_closed_then (Some heard.Done) found_memory = true
is_closed_then (Some heard.Failed) found_memory = true
is_closed_then None found_memory = false

-- closed, if so decided
abbrev pub closed_if : {A : Type 0} → Bool → (Connections A → Connections A) → Connections A
    → Connections A
closed_if is_to_be close connections = if is_to_be then close connections else connections

-- Reading the client with this number. A client silent for too long even so is closed. No other
-- client changes.
pub record TakesClient {A : Type 0} (conn now : ℕ) (result : Result (Tried A) AllocError)
    (before after : SeenSockets A) : Type 0 where
  pub heard : Option Heard
  pub clients : List (ℕ × ClientStream A)
  pub late : Bool
  pub serves : ServesOn conn heard now after.buffer before.calls after.calls
      before.connections.clients clients
  pub is_late : late ≡ is_late_on conn now before.deadline clients
  pub arrives : ArrivesUnless late conn after.buffer heard result
  pub closes : after.connections ≡ closed_if (late || is_closed_then heard (is_ok result))
      (without_client conn)
      (record before.connections { clients = clients })
  pub rest : after ≡ record before {
    connections = after.connections;
    buffer = after.buffer;
    calls = after.calls;
  }

-- The arrival of the server on the connection with this number: the octets read, unless memory ran
-- out. Nothing arrives if the server sends nothing more, the stream failed, or the read would
-- block.
abbrev pub ArrivesBy : {A : Type 0} → (conn : ℕ) (buffer : List ℕ) → Peer → Heard → Result (Tried A) AllocError → Type 0
ArrivesBy conn buffer from (heard.Octets count) (Ok tried) = tried ≡ Arrived (ServerStream conn from (take count buffer))
ArrivesBy conn buffer from (heard.Octets count) (Err _) = Unit {0}
ArrivesBy conn buffer from heard.Nothing result = result ≡ Ok Nothing
ArrivesBy conn buffer from heard.Done result = result ≡ Ok Served
ArrivesBy conn buffer from heard.Failed result = result ≡ Ok Served

-- what arrives of the server with this number; nothing if not open
abbrev pub ArrivesOf : {A : Type 0} → (conn : ℕ) (buffer : List ℕ) → Option ServerHeard
    → Result (Tried A) AllocError → Type 0
ArrivesOf conn buffer (Some served) result = ArrivesBy conn buffer served.server served.heard result
ArrivesOf conn buffer None result = result ≡ Ok Nothing

-- whether a connection to a server is closed after this result
abbrev pub is_closed_by : {A : Type 0} → Result (Tried A) AllocError → Bool
is_closed_by (Ok (Arrived _)) = false
is_closed_by (Ok Served) = true
is_closed_by (Ok Nothing) = false
is_closed_by (Err _) = true

-- Reading the server on the connection with this number. No other changes.
pub record TakesServer {A : Type 0} (conn : ℕ) (result : Result (Tried A) AllocError)
    (before after : SeenSockets A) : Type 0 where
  pub served : Option ServerHeard
  pub servers : List (ℕ × ServerConnection A)
  pub serves : ServesServer conn served after.buffer before.calls after.calls
      before.connections.servers servers
  pub arrives : ArrivesOf conn after.buffer served result
  pub closes : after.connections ≡ closed_if (is_closed_by result) (without_server conn)
      (record before.connections { servers = servers })
  pub rest : after ≡ record before {
    connections = after.connections;
    buffer = after.buffer;
    calls = after.calls;
  }

-- The path of the ask at this port is gone, and its socket too.
abbrev pub IsLost : {A : Type 0} → (port : ℕ) → Tried A → (before after : SeenAsks) → Type 0
IsLost port tried before after =
    (tried ≡ Arrived (PathGone (path.Udp port)))
    × (after ≡ without_ask port before)

-- The path of an ask whose socket refused a read: if the read would block, nothing is there and
-- nothing changes; for any other reason path and socket are gone.
abbrev pub LosesAsk : {A : Type 0} → (port : ℕ) → Refusal → Tried A → (before after : SeenAsks)
    → Type 0
LosesAsk port WouldBlock tried before after = (tried ≡ Nothing) × (after ≡ before)
LosesAsk port Interrupted tried before after = IsLost port tried before after
LosesAsk port NoDescriptor tried before after = IsLost port tried before after
LosesAsk port Failed tried before after = IsLost port tried before after

-- The result of reading the port of an ask, by the answer of its socket: a datagram; or if refused,
-- nothing or the end of its path.
abbrev pub HearsAsk : {A : Type 0} → (port : ℕ) → Result (ℕ × SocketAddr) Error
    → (buffer : List ℕ)
    → Result (Tried A) AllocError → (before after : SeenAsks) → Type 0
HearsAsk port (Ok (count, from)) buffer result before after =
    IsReceived count (peer_at from) buffer (ServerDatagram port) result × (after ≡ before)
HearsAsk port (Err error) buffer (Ok tried) before after = LosesAsk port (refusal_of error) tried
    before after
HearsAsk port (Err error) buffer (Err _) before after = ⊥

-- The socket of the ask at this port is read by one call, and its answer decides.
pub record ReadsAsk {A : Type 0} (port : ℕ) (socket : DatagramSocket)
    (result : Result (Tried A) AllocError) (before after : SeenSockets A) : Type 0 where
  pub answer : Result (ℕ × SocketAddr) Error
  pub hears : HearsAsk port answer after.buffer result before.asks after.asks
  pub rest : after ≡ record before {
    asks = after.asks;
    buffer = after.buffer;
    calls = before.calls ++ receive socket after.buffer answer ∷ [];
  }

-- Reading the socket of an ask, if any is open at the port.
abbrev pub TakesOfAsk : {A : Type 0} → (port : ℕ) → Option DatagramSocket
    → Result (Tried A) AllocError → (before after : SeenSockets A) → Type 0
TakesOfAsk port (Some socket) result before after = ReadsAsk port socket result before after
TakesOfAsk port None result before after = (result ≡ Ok Nothing) × (after ≡ before)

-- Reading the socket of the ask that is listed at this port.
abbrev pub TakesAsk : {A : Type 0} → (port : ℕ) → Result (Tried A) AllocError
    → (before after : SeenSockets A) → Type 0
TakesAsk port result before after =
    TakesOfAsk port (lookup (is_at (nat_cmp port)) before.asks.listed) result before after

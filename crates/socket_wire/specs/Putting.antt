-- The effect of an action on the sockets of asks and on the connections.
use Rattle.std.specs.Prelude.{◌≡◌, ℕ, ◌⊎◌, Bool, true, false, not, List, [], ◌∷◌, ◌++◌, Option, Some, None}
use Rattle.std.specs.Prelude.{Result, Ok, Err, is_ok, if◌then◌else◌}
use Rattle.std.specs.IoError.{error_kind}
use Rattle.std.specs.declared.io.Error.{Error}
use Rattle.std.specs.declared.io.ErrorKind.TheVariants.{OutOfMemory}
use Rattle.std.specs.declared.net.socket_addr.SocketAddr.{SocketAddr}
use Rattle.system_calls.specs.Call.{Call, begin, send_to, watch_stream}
use Rattle.system_calls.specs.declared.sockets.DatagramSocket.{DatagramSocket}
use Rattle.system_calls.specs.declared.sockets.Stream.{Stream}
use Rattle.ready_sockets.specs.Calling.{Watches}
use Rattle.socket_wire.specs.Addresses.{IsAddressOf}
use Rattle.socket_wire.specs.Arriving.{FreesBy}
use Rattle.suffix_routes.specs.declared.peer.Peer.{Peer}
use Rattle.ready_sockets.specs.declared.origin.Origin.TheVariants.{Server}
use Rattle.ready_sockets.specs.Trying.{Noted}
use Rattle.step_values.specs.declared.action.Action.{Action}
use Rattle.step_values.specs.declared.action.Action.TheVariants.{AskUdp, AskTcp, CloseUdp, CloseTcp}
use Rattle.step_values.specs.declared.action.Action.TheVariants.{Reply}
use Rattle.step_values.specs.declared.event.Client.TheVariants.{Udp, Tcp}
use Rattle.stream_connections.specs.declared.client_stream.ClientStream.{ClientStream}
use Rattle.stream_connections.specs.declared.servers.ServerStream.{ServerStream}
use Rattle.socket_wire.specs.Asks.{OpensAsk, SendsQuery, without_ask}
use Rattle.socket_wire.specs.Seen.{SeenSockets}
use Rattle.stream_connections.specs.declared.lost.Lost.{Lost}
use Rattle.stream_connections.specs.Listed.{RepliesOn}
use Rattle.stream_connections.specs.Open.{Connections, with_server, without_client}
use Rattle.stream_connections.specs.Open.{without_server}
use Rattle.stream_connections.specs.Queries.{IsBegunWith}
use Rattle.stream_connections.specs.Serving.{is_over}

-- The calls that begin a connection, and have it watched. A refusal is the last call. None is made
-- only out of memory.
abbrev pub BeginsOn : {A : Type 0} → (conn : ℕ) (server : Peer) (query : List ℕ)
    → Result (ServerStream A) Error → (before after : List Call) → Type 0
BeginsOn conn server query (Ok connection) before after =
    (to : SocketAddr) × IsAddressOf server to × (stream : Stream)
    × IsBegunWith stream server query connection
    × Watches (Server conn) (λ token interest. watch_stream stream token interest (Ok tt))
    (before ++ begin to (Ok stream) ∷ []) after
BeginsOn conn server query (Err error) before after =
    ((error_kind error ≡ OutOfMemory) × (after ≡ before))
    ⊎ ((to : SocketAddr) × IsAddressOf server to
    × ((after ≡ before ++ begin to (Err error) ∷ [])
    ⊎ ((stream : Stream)
    × Watches (Server conn) (λ token interest. watch_stream stream token interest (Err error))
    (before ++ begin to (Ok stream) ∷ []) after)))

-- If the first attempt freed a descriptor, a second one is made.
abbrev pub BeginsAgain : {A : Type 0} → (is_freed : Bool) → (conn : ℕ) (server : Peer) (query : List ℕ)
    → (first begun : Result (ServerStream A) Error) → (before after : List Call) → Type 0
BeginsAgain true conn server query first begun before after = BeginsOn conn server query begun before after
BeginsAgain false conn server query first begun before after = (begun ≡ first) × (after ≡ before)

-- A connection is begun. If no descriptor is left, the oldest client that has waited for nothing
-- for a while is closed, and it is begun again.
pub record BeginsWithRoom {A : Type 0} (conn : ℕ) (server : Peer) (query : List ℕ) (now : ℕ)
    (begun : Result (ServerStream A) Error) (before after : SeenSockets A) : Type 0 where
  pub first : Result (ServerStream A) Error
  pub tried : List Call
  pub is_freed : Bool
  pub freed : SeenSockets A
  pub begins : BeginsOn conn server query first before.calls tried
  pub frees : FreesBy first now is_freed (record before { calls = tried }) freed
  pub again : BeginsAgain is_freed conn server query first begun freed.calls after.calls
  pub rest : after ≡ record freed { calls = after.calls }

-- If the first attempt freed a descriptor, a second one is made.
abbrev pub OpensAgain : (is_freed : Bool) → (port : ℕ) (server : Peer)
    → (first opened : Result DatagramSocket Error) → (before after : List Call) → Type 0
OpensAgain true port server first opened before after = OpensAsk port server opened before after
OpensAgain false port server first opened before after = (opened ≡ first) × (after ≡ before)

-- The socket of an ask is opened. If no descriptor is left, the oldest client that has waited for
-- nothing for a while is closed, and it is opened again.
pub record OpensWithRoom {A : Type 0} (port : ℕ) (server : Peer) (now : ℕ)
    (opened : Result DatagramSocket Error) (before after : SeenSockets A) : Type 0 where
  pub first : Result DatagramSocket Error
  pub tried : List Call
  pub is_freed : Bool
  pub freed : SeenSockets A
  pub opens : OpensAsk port server first before.calls tried
  pub frees : FreesBy first now is_freed (record before { calls = tried }) freed
  pub again : OpensAgain is_freed port server first opened freed.calls after.calls
  pub rest : after ≡ record freed { calls = after.calls }

-- A query by UDP: a socket is opened for it, which sends it.
pub record AsksFrom {A : Type 0} (port : ℕ) (server : Peer) (query : List ℕ) (now : ℕ)
    (is_done : Bool) (before after : SeenSockets A) : Type 0 where
  pub opened : Result DatagramSocket Error
  pub between : SeenSockets A
  pub opens : OpensWithRoom port server now opened before between
  pub sends : SendsQuery opened port query is_done between.calls after.calls between.asks after.asks
  pub rest : after ≡ record between { asks = after.asks; calls = after.calls }

-- whether a reply is on its way
abbrev pub is_answered : Option (Result Bool Lost) → Bool
is_answered (Some (Ok goes_on)) = true
is_answered (Some (Err lost)) = false
is_answered None = false

-- whether a connection is over after a reply
abbrev pub is_closed_after : Option (Result Bool Lost) → Bool
is_closed_after (Some (Ok goes_on)) = not goes_on
is_closed_after (Some (Err lost)) = is_over lost
is_closed_after None = false

-- A reply on the connection with this number, and the connection's end, if over then. No other
-- client changes.
pub record AnswersOn {A : Type 0} (conn : ℕ) (reply : List ℕ) (now : ℕ) (is_done : Bool)
    (calls calls' : List Call) (before after : Connections A) : Type 0 where
  pub answer : Option (Result Bool Lost)
  pub clients : List (ℕ × ClientStream A)
  pub replies : RepliesOn conn reply now answer calls calls' before.clients clients
  pub report : is_done ≡ is_answered answer
  pub closes : after ≡
      (if is_closed_after answer then without_client conn (record before { clients = clients })
      else record before { clients = clients })

-- A reply by UDP is one call, with exactly its octets to its client. It is done if the system took
-- it.
pub record SendsReply {A : Type 0} (to : Peer) (reply : List ℕ) (is_done : Bool)
    (before after : SeenSockets A) : Type 0 where
  pub address : SocketAddr
  pub answer : Result ℕ Error
  pub is_address : IsAddressOf to address
  pub is_taken : is_done ≡ is_ok answer
  pub rest : after ≡ record before {
    calls = before.calls ++ send_to before.datagrams reply address answer ∷ [];
  }

-- The connection of a query over TCP is listed, and noted as ready.
pub record ListsServer {A : Type 0} (conn : ℕ) (stream : ServerStream A) (before after : SeenSockets A)
    : Type 0 where
  pub notes : Noted (Server conn) before.readiness.ready after.readiness.ready
  pub rest : after ≡ record before {
    connections = record (with_server conn stream before.connections) { has_room = after.connections.has_room };
    readiness = record before.readiness { ready = after.readiness.ready };
  }

-- The begun connection of a query over TCP is listed, unless memory ran out.
abbrev pub ListsIfBegun : {A : Type 0} → (conn : ℕ) → Result (ServerStream A) Error → (is_done : Bool)
    → (before after : SeenSockets A) → Type 0
ListsIfBegun conn (Ok stream) true before after = ListsServer conn stream before after
ListsIfBegun conn (Ok stream) false before after = after ≡ before
ListsIfBegun conn (Err error) is_done before after = (is_done ≡ false) × (after ≡ before)

-- A query over TCP, with room to report its end: a connection is begun for it.
pub record BeginsQuery {A : Type 0} (conn : ℕ) (server : Peer) (query : List ℕ) (now : ℕ)
    (is_done : Bool) (before after : SeenSockets A) : Type 0 where
  pub begun : Result (ServerStream A) Error
  pub between : SeenSockets A
  pub begins : BeginsWithRoom conn server query now begun before between
  pub lists : ListsIfBegun conn begun is_done between after

-- the sockets, with or without room to report one end more
abbrev pub with_room : {A : Type 0} → Bool → SeenSockets A → SeenSockets A
with_room has_room before =
    record before { connections = record before.connections { has_room = has_room } }

-- A query over TCP. Without room to report its end, it is not done.
abbrev pub PutsQuery : {A : Type 0} → (conn : ℕ) (server : Peer) (query : List ℕ) (now : ℕ)
    → (is_done : Bool) → (before after : SeenSockets A) → Type 0
PutsQuery conn server query now is_done before after =
    ((is_done ≡ false) × (after ≡ with_room after.connections.has_room before))
    ⊎ BeginsQuery conn server query now is_done (with_room true before) after

-- Putting an action, done or refused.
abbrev pub PutsAction : {A : Type 0} → Action A → (now : ℕ) → (is_done : Bool)
    → (before after : SeenSockets A) → Type 0
PutsAction (AskUdp port server query) now is_done before after =
    AsksFrom port server query now is_done before after
PutsAction (AskTcp conn server query) now is_done before after =
    PutsQuery conn server query now is_done before after
PutsAction (CloseUdp port) now is_done before after =
    (is_done ≡ true) × (after ≡ record before { asks = without_ask port before.asks })
PutsAction (CloseTcp conn) now is_done before after =
    (is_done ≡ true) × (after ≡ record before { connections = without_server conn before.connections })
PutsAction (Reply (Udp to) reply _) now is_done before after = SendsReply to reply is_done before after
PutsAction (Reply (Tcp conn) reply _) now is_done before after =
    AnswersOn conn reply now is_done before.calls after.calls before.connections after.connections
    × (after ≡ record before { connections = after.connections; calls = after.calls })

-- the sockets once the random words in an action are spent: those of an ask
abbrev pub with_spent : {A : Type 0} → Action A → SeenSockets A → SeenSockets A
with_spent (AskUdp _ _ _) sockets = record sockets
    { words = record sockets.words { is_spent = true } }
with_spent (AskTcp _ _ _) sockets = record sockets
    { words = record sockets.words { is_spent = true } }
with_spent action sockets = sockets

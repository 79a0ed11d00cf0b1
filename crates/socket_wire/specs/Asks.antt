-- The sockets of asks, by their ports.
use Rattle.std.specs.Prelude.{◌≡◌, ℕ, Bool, true, false, List, [], ◌∷◌, ◌++◌, Result, Ok, Err}
use Rattle.std.specs.Ordering.{nat_cmp}
use Rattle.std.specs.Map.{lookup, remove_entry}
use Rattle.std.specs.BTreeMap.{insert_entry, is_at}
use Rattle.std.specs.declared.io.Error.{Error}
use Rattle.std.specs.declared.net.socket_addr.SocketAddr.{SocketAddr}
use Rattle.suffix_routes.specs.declared.peer.Peer.{Peer}
use Rattle.system_calls.specs.Call.{Call, bind, connect, send, watch_datagrams}
use Rattle.system_calls.specs.declared.sockets.DatagramSocket.{DatagramSocket}
use Rattle.ready_sockets.specs.Calling.{Watches}
use Rattle.ready_sockets.specs.declared.origin.Origin.TheVariants.{Ask}
use Rattle.stream_connections.specs.Dropped.{with_dropped}
use Rattle.socket_wire.specs.Addresses.{IsAddressOf, at_any_address}

-- The open sockets, in the order of their ports, and those that were listed and then dropped, in
-- order.
pub record SeenAsks : Type 0 where
  pub listed : List (ℕ × DatagramSocket)
  pub gone : List DatagramSocket

-- without the socket at this port: it is dropped, if any
abbrev pub without_ask : (port : ℕ) → SeenAsks → SeenAsks
without_ask port before = record {
  listed = remove_entry (is_at (nat_cmp port)) before.listed;
  gone = with_dropped (lookup (is_at (nat_cmp port)) before.listed) before.gone;
}

-- with this socket at this port, in place of the one listed there
abbrev pub with_ask : (port : ℕ) → DatagramSocket → SeenAsks → SeenAsks
with_ask port socket before = record {
  listed = insert_entry nat_cmp before.listed port socket;
  gone = with_dropped (lookup (is_at (nat_cmp port)) before.listed) before.gone;
}

-- The socket of a sent query is listed at its port, unless memory ran out.
abbrev pub ListsThis : (port : ℕ) → DatagramSocket → (is_done : Bool) → SeenAsks → SeenAsks → Type 0
ListsThis port socket true before after = after ≡ with_ask port socket before
ListsThis port socket false before after = after ≡ before

-- the socket that is watched, unless the system refused
abbrev pub watched_by : DatagramSocket → Result (Unit {0}) Error → Result DatagramSocket Error
watched_by socket (Ok _) = Ok socket
watched_by socket (Err error) = Err error

-- The call that connects a socket, and the call that has it watched. A refusal is the last call.
abbrev pub WatchesAsk : (port : ℕ) → DatagramSocket → (connected : Result (Unit {0}) Error)
    → Result DatagramSocket Error → (before after : List Call) → Type 0
WatchesAsk port socket (Ok _) opened before after =
    (watched : Result (Unit {0}) Error)
    × Watches (Ask port) (λ token interest. watch_datagrams socket token interest watched) before after
    × (opened ≡ watched_by socket watched)
WatchesAsk port socket (Err error) opened before after = (opened ≡ Err error) × (after ≡ before)

-- The calls after the one that bound a socket.
abbrev pub ConnectsAsk : (port : ℕ) (to : SocketAddr) → (bound : Result DatagramSocket Error)
    → Result DatagramSocket Error → (before after : List Call) → Type 0
ConnectsAsk port to (Ok socket) opened before after =
    (connected : Result (Unit {0}) Error)
    × WatchesAsk port socket connected opened (before ++ connect socket to connected ∷ []) after
ConnectsAsk port to (Err error) opened before after = (opened ≡ Err error) × (after ≡ before)

-- The socket of an ask is opened by these calls: bound at the port, connected to the server, and
-- watched.
pub record OpensAsk (port : ℕ) (server : Peer) (opened : Result DatagramSocket Error)
    (before after : List Call) : Type 0 where
  pub own : SocketAddr
  pub to : SocketAddr
  pub is_own : IsAddressOf (at_any_address port) own
  pub is_to : IsAddressOf server to
  pub bound : Result DatagramSocket Error
  pub connects : ConnectsAsk port to bound opened (before ++ bind own bound ∷ []) after

-- The query of an ask is sent by one call on its socket, and the socket is listed if the system
-- took the query.
abbrev pub SentBy : Result ℕ Error → (port : ℕ) → DatagramSocket → (is_done : Bool)
    → SeenAsks → SeenAsks → Type 0
SentBy (Ok _) port socket is_done before after = ListsThis port socket is_done before after
SentBy (Err _) port socket is_done before after = (is_done ≡ false) × (after ≡ before)

-- The query of an ask, on the socket that was opened for it. Without a socket it is not sent.
abbrev pub SendsQuery : (opened : Result DatagramSocket Error) → (port : ℕ) (query : List ℕ)
    → (is_done : Bool) → (calls calls' : List Call) → (before after : SeenAsks) → Type 0
SendsQuery (Ok socket) port query is_done calls calls' before after =
    (answer : Result ℕ Error) × (calls' ≡ calls ++ send socket query answer ∷ [])
    × SentBy answer port socket is_done before after
SendsQuery (Err error) port query is_done calls calls' before after =
    (is_done ≡ false) × (calls' ≡ calls) × (after ≡ before)

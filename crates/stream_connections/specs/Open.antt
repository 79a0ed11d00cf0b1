-- The open connections, and the ends still to be reported.
use Rattle.std.specs.Prelude.{◌≡◌, ℕ, ◌+◌, ◌≤◌, Bool, ◌||◌, List, [], ◌∷◌, ◌++◌, length, nat_lt}
use Rattle.std.specs.Prelude.{Option, Some, None, is_some, if◌then◌else◌}
use Rattle.std.specs.Ordering.{nat_cmp}
use Rattle.std.specs.Map.{lookup, remove_entry}
use Rattle.std.specs.BTreeMap.{insert_entry, is_at}
use Rattle.suffix_routes.specs.declared.peer.Peer.{Peer}
use Rattle.system_calls.specs.Call.{Call}
use Rattle.stream_connections.specs.declared.client_stream.ClientStream.{ClientStream}
use Rattle.stream_connections.specs.declared.servers.ServerStream.{ServerStream}
use Rattle.stream_connections.specs.declared.connections.Closed.{Closed}
use Rattle.stream_connections.specs.declared.connections.Closed.TheVariants.{Client, Server}
use Rattle.stream_connections.specs.declared.connections.ServerHeard.{ServerHeard}
use Rattle.stream_connections.specs.Dropped.{with_dropped}
use Rattle.stream_connections.specs.Queries.{IsWithin, ServesQuery}
use Rattle.stream_connections.specs.Listed.{ChangesAt, IsNotOpen, first_idle}

-- The connections of clients and of asks, each in the order of their numbers; the closed
-- connections whose ends are still to be reported, in order; whether there is room to report the
-- end of one connection more; and the connections of clients and of asks that were listed and then
-- dropped, in order.
pub record Connections (A : Type 0) : Type 0 where
  pub clients : List (ℕ × ClientStream A)
  pub servers : List (ℕ × ServerStream A)
  pub closed : List Closed
  pub has_room : Bool
  pub gone_clients : List (ClientStream A)
  pub gone_servers : List (ServerStream A)

-- whether there is room to report the end of one connection more, in addition to `ends` ends
abbrev pub has_room : {A : Type 0} → List (ℕ × ClientStream A) → List (ℕ × ServerStream A) → (ends room : ℕ) → Bool
has_room clients servers ends room = nat_lt (ends + length clients + length servers) room

-- There is room to report the end of each, in addition to `ends` ends.
abbrev pub AllEndsFit : {A : Type 0} → List (ℕ × ClientStream A) → List (ℕ × ServerStream A) → (ends room : ℕ) → Type 0
AllEndsFit clients servers ends room = ends + length clients + length servers ≤ room

-- None is open, and no end is to be reported.
pub record AreNone {A : Type 0} (connections : Connections A) : Type 0 where
  pub clients : connections.clients ≡ []
  pub servers : connections.servers ≡ []
  pub closed : connections.closed ≡ []
  pub gone_clients : connections.gone_clients ≡ []
  pub gone_servers : connections.gone_servers ≡ []

-- with one end more to report, if a connection was open
abbrev pub with_end : Bool → Closed → List Closed → List Closed
with_end was_open ended before = if was_open then before ++ ended ∷ [] else before

-- with this connection to a server under this number, in place of the one listed there
abbrev pub with_server : {A : Type 0} → (conn : ℕ) → ServerStream A → Connections A → Connections A
with_server conn stream before = record before {
  servers = insert_entry nat_cmp before.servers conn stream;
  gone_servers = with_dropped (lookup (is_at (nat_cmp conn)) before.servers) before.gone_servers;
}

-- without the client with this number: it is dropped, and its end is to be reported, if it was open
abbrev pub without_client : {A : Type 0} → (conn : ℕ) → Connections A → Connections A
without_client conn before = record before {
  clients = remove_entry (is_at (nat_cmp conn)) before.clients;
  gone_clients = with_dropped (lookup (is_at (nat_cmp conn)) before.clients) before.gone_clients;
  closed = with_end (is_some (lookup (is_at (nat_cmp conn)) before.clients)) (Client conn) before.closed;
}

-- without the server with this number: it is dropped, and its end is to be reported, if it was open
abbrev pub without_server : {A : Type 0} → (conn : ℕ) → Connections A → Connections A
without_server conn before = record before {
  servers = remove_entry (is_at (nat_cmp conn)) before.servers;
  gone_servers = with_dropped (lookup (is_at (nat_cmp conn)) before.servers) before.gone_servers;
  closed = with_end (is_some (lookup (is_at (nat_cmp conn)) before.servers)) (Server conn) before.closed;
}

-- without this client, if any
abbrev pub without_first : {A : Type 0} → Option ℕ → Connections A → Connections A
without_first (Some conn) before = without_client conn before
without_first None before = before

-- Making a place for one client more: of 1,024, the oldest that waits for nothing goes.
pub record MakesPlace {A : Type 0} (made : Bool) (before after : Connections A) : Type 0 where
  pub is_made : made ≡ (nat_lt (length before.clients) 1024 || is_some (first_idle before.clients))
  pub emptied : after ≡
      (if nat_lt (length before.clients) 1024 then before else without_first (first_idle before.clients) before)

-- A connection to a server is served.
abbrev pub Serves : {A : Type 0} → ServerHeard → (buffer : List ℕ) → (calls calls' : List Call)
    → ServerStream A → ServerStream A → Type 0
Serves served buffer calls calls' before after =
    (served.server ≡ before.server) × ServesQuery served.heard buffer calls calls' before after

-- Serving the server on the connection with this number, by these calls; by none if not open.
abbrev pub ServesServer : {A : Type 0} → (conn : ℕ) → Option ServerHeard → (buffer : List ℕ)
    → (calls calls' : List Call) → (before after : List (ℕ × ServerStream A)) → Type 0
ServesServer conn (Some served) buffer calls calls' before after =
    ChangesAt conn (Serves served buffer calls calls') before after × IsWithin served.heard buffer
ServesServer conn None buffer calls calls' before after = IsNotOpen conn before after × (calls' ≡ calls)

-- The calls at a wire's beginning.
use Rattle.std.specs.Prelude.{◌≡◌, ℕ, ◌^◌, true, List, [], ◌∷◌, ◌++◌, length, replicate, Ok}
use Rattle.std.specs.Int.{to_le_bytes, w32}
use Rattle.std.specs.declared.time.Instant.{Instant}
use Rattle.rand_chacha.specs.ChaCha.{of_seed}
use Rattle.std.specs.declared.net.socket_addr.SocketAddr.{SocketAddr}
use Rattle.suffix_routes.specs.declared.peer.Peer.{Peer}
use Rattle.system_calls.specs.Call.{Call, bind, fill_random, listen, start_clock, watch_datagrams, watch_listener}
use Rattle.system_calls.specs.Options.{SetsReceiveBuffer}
use Rattle.system_calls.specs.declared.sockets.DatagramSocket.{DatagramSocket}
use Rattle.system_calls.specs.declared.sockets.Listener.{Listener}
use Rattle.ready_sockets.specs.Calling.{MakesReports, Watches}
use Rattle.ready_sockets.specs.declared.origin.Origin.TheVariants.{Connections, Datagrams}
use Rattle.socket_wire.specs.Addresses.{IsAddressOf}
use Rattle.socket_wire.specs.Seen.{SeenWire}

-- This socket for datagrams is bound at this address, asks for room for 2^20 octets, and is
-- watched.
pub record BindsDatagrams (at : SocketAddr) (socket : DatagramSocket) (before after : List Call)
    : Type 0 where
  pub between : List Call
  pub widens : SetsReceiveBuffer socket (to_le_bytes w32 (2 ^ 20) ++ replicate 12 0)
      (before ++ bind at (Ok socket) ∷ []) between
  pub watches : Watches Datagrams (λ token interest. watch_datagrams socket token interest (Ok tt))
      between after

-- This listener is bound at this address, and watched.
abbrev pub Listens : (at : SocketAddr) → Listener → (before after : List Call) → Type 0
Listens at listener before after =
    Watches Connections (λ token interest. watch_listener listener token interest (Ok tt))
    (before ++ listen at (Ok listener) ∷ []) after

-- The calls that open the two sockets of clients, at this peer's address.
pub record OpensBoth (listen : Peer) (datagrams : DatagramSocket) (listener : Listener)
    (before after : List Call) : Type 0 where
  pub at : SocketAddr
  pub is_at : IsAddressOf listen at
  pub reported : List Call
  pub bound : List Call
  pub reports : MakesReports before reported
  pub binds : BindsDatagrams at datagrams reported bound
  pub listens : Listens at listener bound after

-- A new wire, of these calls: random octets, from which its words come; the two sockets of clients,
-- opened at this address; and the clock's start.
pub record IsOpenedAt (listen : Peer) (wire : SeenWire) : Type 0 where
  pub seed : List ℕ
  pub datagrams : DatagramSocket
  pub listener : Listener
  pub opened : List Call
  pub started : Instant
  pub has_32 : length seed ≡ 32
  pub random : wire.words.random ≡ of_seed seed
  pub none_given : wire.words.is_spent ≡ true
  pub opens : OpensBoth listen datagrams listener (fill_random seed (Ok tt) ∷ []) opened
  pub clock : wire.calls ≡ opened ++ start_clock (Ok started) ∷ []

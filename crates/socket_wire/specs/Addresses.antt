-- Peers as addresses of sockets.
use Rattle.std.specs.Prelude.{◌≡◌, ℕ, [], ◌∷◌, Option, None, Some}
use Rattle.std.specs.declared.net.socket_addr.SocketAddr.{SocketAddr}
use Rattle.std.specs.declared.net.socket_addr.SocketAddr.TheVariants.{V4, V6}
use Rattle.std.specs.Net.Addr.{ipv4_octets}
use Rattle.std.specs.Net.Socket.{v4_ip, v4_port}
use Rattle.suffix_routes.specs.declared.peer.Peer.{Peer}

-- The address is of IPv4, with the peer's octets and port.
abbrev pub IsAddressOf : Peer → SocketAddr → Type 0
IsAddressOf peer (V4 address) = (ipv4_octets (v4_ip address) ≡ peer.ip)
    × (v4_port address ≡ peer.port)
IsAddressOf peer (V6 address) = ⊥

-- this port on every address of this machine
abbrev pub at_any_address : ℕ → Peer
at_any_address port = record { ip = 0 ∷ 0 ∷ 0 ∷ 0 ∷ []; port = port }

-- the peer at this address, if it is of IPv4
abbrev pub peer_at : SocketAddr → Option Peer
peer_at (V4 address) = Some (record { ip = ipv4_octets (v4_ip address); port = v4_port address })
peer_at (V6 address) = None

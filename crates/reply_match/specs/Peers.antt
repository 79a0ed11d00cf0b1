-- Peers, compared.
use Rattle.std.specs.Prelude.{Bool, ◌==◌, ◌&&◌}
use Rattle.plain_values.specs.Octets.{same_octets}
use Rattle.outstanding.specs.SuffixRoutes.declared.peer.Peer.{Peer}

-- equal addresses and equal ports
abbrev pub same_peer : Peer → Peer → Bool
same_peer a b = same_octets a.ip b.ip && (a.port == b.port)

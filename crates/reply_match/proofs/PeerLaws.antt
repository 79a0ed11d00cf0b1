-- Peers, compared by `==`.
use Rattle.std.proofs.Common.{◌≡◌, ℕ, List, [], ◌∷◌, refl, ap}
use Rattle.std.specs.Prelude.{◌==◌, ◌&&◌, nat_eq}
use Rattle.std.specs.Cmp.Lexicographic.{pointwise}
use Rattle.plain_values.specs.Octets.{same_octets}
use Rattle.outstanding.specs.SuffixRoutes.declared.peer.Peer.{Peer}
use Rattle.reply_match.specs.Peers.{same_peer}

-- `==` of two slices or arrays is the test of equal octets
octets_compared : (xs ys : List ℕ) → pointwise nat_eq xs ys ≡ same_octets xs ys
octets_compared [] [] = refl
octets_compared [] (y ∷ ys) = refl
octets_compared (x ∷ xs) [] = refl
octets_compared (x ∷ xs) (y ∷ ys) = ap (λ rest. (x == y) && rest) (octets_compared xs ys)

-- `==` of two peers
pub peers_compared : (a b : Peer) → (pointwise nat_eq a.ip b.ip && (a.port == b.port)) ≡ same_peer a b
peers_compared a b = ap (λ addresses. addresses && (a.port == b.port)) (octets_compared a.ip b.ip)

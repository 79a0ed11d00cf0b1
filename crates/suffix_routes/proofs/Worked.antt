-- Routes that are none: no code computes this.
use Rattle.std.proofs.Common.{◌≡◌, ℕ, List, [], ◌∷◌, true, false, refl, arith}
use Rattle.std.specs.Prelude.{codes}
use Rattle.suffix_routes.specs.declared.peer.Peer.{Peer}
use Rattle.suffix_routes.specs.Values.{IsRoute}

abbrev server : Peer
server = record { ip = 192 ∷ 0 ∷ 2 ∷ 1 ∷ []; port = 53 }

abbrev lan : List (List ℕ)
lan = codes "lan" ∷ []

-- what is a route: servers or a denial, and never both or neither
denying_servers_is_none : IsRoute (record { suffix = lan; deny = true; servers = server ∷ [] }) → ⊥
denying_servers_is_none is = let none : 1 ≡ 0 = is.denies refl in omega (arith, none)

serving_nothing_is_none : IsRoute (record { suffix = lan; deny = false; servers = [] }) → ⊥
serving_nothing_is_none is = let some = (is.serves refl).0 in omega (arith, some)

-- A denied name of which an entry is held: no run has one, so no worked row can tell.
use Rattle.std.proofs.Common.{◌≡◌, ℕ, true, false, List, [], ◌∷◌, Some, refl}
use Rattle.suffix_routes.specs.declared.peer.Peer.{Peer}
use Rattle.suffix_routes.specs.Values.{Route}
use Rattle.suffix_routes.specs.Routes.{route_of}
use Rattle.record_cache.specs.TrustRank.Values.{rows}
use Rattle.record_cache.specs.Values.{Held}
use Rattle.negative_cache.specs.Values as finds
use Rattle.negative_cache.specs.Finding.{found_or_local}

abbrev server : Peer
server = record { ip = 192 ∷ 0 ∷ 2 ∷ 1 ∷ []; port = 53 }

-- a name of one letter
abbrev name_of : ℕ → List (List ℕ)
name_of letter = (letter ∷ []) ∷ []

-- an alias of the name l to the name e, kept at 1000 for a minute
abbrev alias : Held
alias = record {
  piece = record { owner = name_of 108; slot = record { key = name_of 108; class = 1; kind = Some 5 }; body = rows ((1 ∷ 101 ∷ 0 ∷ []) ∷ []); lifetime = 60; rank = 3; route = 0 };
  accepted = 1000;
}

-- names under this suffix are denied
abbrev denying : List (List ℕ) → List Route
denying suffix = record { suffix = []; deny = false; servers = server ∷ [] } ∷ record { suffix = suffix; deny = true; servers = [] } ∷ []

abbrev found_where : List (List ℕ) → finds.Found
found_where suffix = found_or_local (denying suffix) 2000 (alias ∷ []) (record { name = name_of 108; kind = 1; class = 1 })

-- the denial comes before the entry; where another name is denied, the entry is found
denied_before_an_entry : (found_where (name_of 108) ≡ finds.local) × (found_where (name_of 110) ≡ finds.alias alias)
unfolding route_of
denied_before_an_entry = (refl, refl)

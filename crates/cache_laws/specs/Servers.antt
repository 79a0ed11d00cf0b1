-- The name servers of a reply's authority section (RFC 2181 5.4.1).
use Rattle.std.specs.Prelude.{◌≡◌, ◌≢◌, ℕ, true, false, List, [], ◌∷◌, Some}
use Rattle.std.specs.List.{AllByRecursion}
use Rattle.dns_name.specs.Labels.{IsSame, IsUnder}
use Rattle.dns_message.specs.Values.{Question, Record, Message}
use Rattle.suffix_routes.specs.Values.{Config}
use Rattle.suffix_routes.specs.Routes.{route_of}
use Rattle.trust_rank.specs.Values.{rows, Piece, lame}
use Rattle.trust_rank.specs.Walks.{walk_of}
use Rattle.cache_laws.specs.Lists.{IsOneOf}

-- no piece has this owner, letter case aside
abbrev pub NoneOwns : List (List ℕ) → List Piece → Type 0
NoneOwns name pieces = (p : Piece) → IsOneOf p pieces → IsSame p.owner name → ⊥

-- an NS record of the authority section, of the asked class, whose owner is at or above the asked
-- name
pub record IsServerAbove (q : Question) (authority : List Record) (s : Record) : Type 0 where
  pub there : IsOneOf s authority
  pub kind : s.kind ≡ 2
  pub class : s.class ≡ q.class
  pub above : IsUnder q.name s.owner

-- such a record whose owner is on the asked route, and is the owner of no piece on the walk
pub record IsFitServer (c : Config) (m : Message) (q : Question) (route : ℕ) (s : Record) : Type 0 where
  pub server : IsServerAbove q m.authority s
  pub on_route : route_of c.routes s.owner ≡ Some route
  pub no_piece : NoneOwns s.owner (walk_of c m q route).pieces

-- the set of the record's owner is carried, with the record's data
pub record IsCarriedIn (sets : List Piece) (s : Record) : Type 0 where
  pub set : Piece
  pub there : IsOneOf set sets
  pub owner : IsSame set.owner s.owner
  pub each : List (List ℕ)
  pub body : set.body ≡ rows each
  pub row : IsOneOf s.rdata each

-- An authoritative, not lame reply carries all fitting name servers.
abbrev pub ServersAreAll : Type 0
ServersAreAll = (c : Config) (m : Message) (q : Question) (route : ℕ) (s : Record)
    → m.header.aa ≡ true → (walk_of c m q route).end ≢ lame
    → IsFitServer c m q route s → IsCarriedIn (walk_of c m q route).authority s

-- A reply without AA carries none.
abbrev pub OthersCarryNone : Type 0
OthersCarryNone = (c : Config) (m : Message) (q : Question) (route : ℕ) → m.header.aa ≡ false
    → (walk_of c m q route).authority ≡ []

-- no two of the pieces have equal owners
abbrev pub OwnersDiffer : List Piece → Type 0
OwnersDiffer [] = Unit {0}
OwnersDiffer (p ∷ pieces) = NoneOwns p.owner pieces × OwnersDiffer pieces

-- Each carried set has an owner of its own, which owns no piece on the walk.
abbrev pub ServersAreApart : Type 0
ServersAreApart = (c : Config) (m : Message) (q : Question) (route : ℕ)
    → AllByRecursion (λ (p : Piece). NoneOwns p.owner (walk_of c m q route).pieces) (walk_of c m q route).authority
    × OwnersDiffer (walk_of c m q route).authority

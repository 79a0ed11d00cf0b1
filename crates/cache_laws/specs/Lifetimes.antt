-- The lifetime of a denial (RFC 2308 3 and 5).
use Rattle.std.specs.Prelude.{◌≡◌, ℕ, ◌+◌, ◌*◌, ◌≤◌, ◌⊎◌, List, [], ◌∷◌, ◌++◌, Option, Some, None}
use Rattle.std.specs.List.{AllByRecursion}
use Rattle.dns_name.specs.Labels.{IsUnder}
use Rattle.dns_message.specs.Values.{Question, Record, Message}
use Rattle.suffix_routes.specs.Values.{Config}
use Rattle.trust_rank.specs.Values.{no_data, denied, Piece}
use Rattle.trust_rank.specs.Walks.{walk_of}
use Rattle.cache_laws.specs.Sets.{AreSeconds}

-- an SOA record (6) of this class, whose owner is at or above the name
pub record IsSoaFor (class : ℕ) (name : List (List ℕ)) (s : Record) : Type 0 where
  pub kind : s.kind ≡ 6
  pub class_is : s.class ≡ class
  pub above : IsUnder name s.owner

-- the first such record, or none
abbrev pub IsFirstSoa : ℕ → List (List ℕ) → List Record → Option Record → Type 0
IsFirstSoa class name [] soa = soa ≡ None
IsFirstSoa class name (s ∷ records) soa = (IsSoaFor class name s × (soa ≡ Some s))
    ⊎ ((IsSoaFor class name s → ⊥) × IsFirstSoa class name records soa)

-- the number in these four octets, the highest first (RFC 1035 2.3.2)
abbrev pub four_octets : ℕ → ℕ → ℕ → ℕ → ℕ
four_octets a b c d = ((a * 256 + b) * 256 + c) * 256 + d

-- the least of two numbers and of three hours, in seconds
pub record IsLeastOf (ttl minimum lifetime : ℕ) : Type 0 where
  pub within_ttl : lifetime ≤ ttl
  pub within_minimum : lifetime ≤ minimum
  pub within_three_hours : lifetime ≤ 10800
  pub one : (lifetime ≡ ttl) ⊎ ((lifetime ≡ minimum) ⊎ (lifetime ≡ 10800))

-- without SOA a denial has no lifetime; otherwise the least of the SOA's TTL, of MINIMUM (the last
-- four octets, RFC 1035 3.3.13), and of three hours
abbrev pub LivesBy : Option Record → ℕ → Type 0
LivesBy None lifetime = lifetime ≡ 0
LivesBy (Some soa) lifetime = (front : List ℕ) (a b c d seconds : ℕ) → soa.rdata ≡ front ++ a ∷ b ∷ c ∷ d ∷ []
    → AreSeconds soa.ttl seconds → IsLeastOf seconds (four_octets a b c d) lifetime

-- the section's first SOA for the piece's name, which gives the piece its lifetime
pub record HoldsSoa (class : ℕ) (authority : List Record) (p : Piece) (soa : Option Record) : Type 0 where
  pub first : IsFirstSoa class p.owner authority soa
  pub lives : LivesBy soa p.lifetime

-- if a piece is NODATA or a name error
pub record IsDenialFrom (class : ℕ) (authority : List Record) (p : Piece) : Type 0 where
  pub of_type : (soa : Option Record) → p.body ≡ no_data soa → HoldsSoa class authority p soa
  pub of_name : (soa : Option Record) → p.body ≡ denied soa → HoldsSoa class authority p soa

-- Each denial on the walk of a reply holds the first fitting SOA of the authority section, and
-- lives by the SOA.
abbrev pub DenialsLiveByTheirSoa : Type 0
DenialsLiveByTheirSoa = (c : Config) (m : Message) (q : Question) (route : ℕ)
    → AllByRecursion (IsDenialFrom q.class m.authority) (walk_of c m q route).pieces

-- The record sets of a reply: RFC 2181 5 and 8.
use Rattle.std.specs.Prelude.{◌≡◌, ◌≢◌, ℕ, ◌^◌, ◌<◌, ◌≤◌, ◌⊎◌, List, [], ◌∷◌, Some}
use Rattle.std.specs.List.{AllByRecursion}
use Rattle.dns_name.specs.Labels.{IsSame}
use Rattle.dns_message.specs.Values.{Question, Record, Message}
use Rattle.suffix_routes.specs.Values.{Config}
use Rattle.trust_rank.specs.Values.{rows, Piece}
use Rattle.trust_rank.specs.Sets.{seconds_of}
use Rattle.trust_rank.specs.Walks.{walk_of}
use Rattle.cache_laws.specs.Lists.{IsOneOf, NoneTwice, IsBefore}

-- a record of the section with the question's name (letter case aside), type and class
pub record IsRecordFor (q : Question) (records : List Record) (r : Record) : Type 0 where
  pub there : IsOneOf r records
  pub kind : r.kind ≡ q.kind
  pub class : r.class ≡ q.class
  pub name : IsSame r.owner q.name

-- a record of the section has this data, too
pub record HasDatum (q : Question) (records : List Record) (datum : List ℕ) : Type 0 where
  pub r : Record
  pub fits : IsRecordFor q records r
  pub datum_is : r.rdata ≡ datum

-- each row is the data of such a record, the data of each such record is a row, and no row is there
-- twice (RFC 2181 5)
pub record AreDataOf (q : Question) (records : List Record) (each : List (List ℕ)) : Type 0 where
  pub only : (datum : List ℕ) → IsOneOf datum each → HasDatum q records datum
  pub whole : (r : Record) → IsRecordFor q records r → IsOneOf r.rdata each
  pub once : NoneTwice each

-- a record of the section has the first datum, and no record before has the second
abbrev pub ComesFirst : Question → List Record → List ℕ → List ℕ → Type 0
ComesFirst q [] x y = ⊥
ComesFirst q (r ∷ records) x y = (IsRecordFor q (r ∷ records) r × (r.rdata ≡ x))
    ⊎ ((IsRecordFor q (r ∷ records) r → r.rdata ≢ y) × ComesFirst q records x y)

-- the rows are in the order in which their data comes first in the section
abbrev pub AreInOrder : Question → List Record → List (List ℕ) → Type 0
AreInOrder q records each = (x y : List ℕ) → IsBefore x y each → ComesFirst q records x y

-- the first such record of the section has this owner, spelled so
abbrev pub FirstOwns : Question → List Record → List (List ℕ) → Type 0
FirstOwns q [] owner = ⊥
FirstOwns q (r ∷ records) owner = (IsRecordFor q (r ∷ records) r × (r.owner ≡ owner))
    ⊎ ((IsRecordFor q (r ∷ records) r → ⊥) × FirstOwns q records owner)

-- a TTL with its top bit set is 0 seconds, any other its own number of seconds (RFC 2181 8)
pub record AreSeconds (ttl seconds : ℕ) : Type 0 where
  pub set : 2 ^ 31 ≤ ttl → seconds ≡ 0
  pub clear : ttl < 2 ^ 31 → seconds ≡ ttl

-- a record of the section has this lifetime in seconds
pub record HasSeconds (q : Question) (records : List Record) (seconds : ℕ) : Type 0 where
  pub r : Record
  pub fits : IsRecordFor q records r
  pub seconds_are : AreSeconds r.ttl seconds

-- no record of the set has a shorter lifetime (RFC 2181 5.2), and a record has exactly this
-- lifetime, unless cut to a week
pub record IsLowestTtl (q : Question) (records : List Record) (lifetime : ℕ) : Type 0 where
  pub least : (r : Record) (seconds : ℕ) → IsRecordFor q records r → AreSeconds r.ttl seconds → lifetime ≤ seconds
  pub week : lifetime ≤ 604800
  pub one : (lifetime ≡ 604800) ⊎ HasSeconds q records lifetime

-- if a piece is a set: rows, order, spelling of the owner and lifetime come from the section's
-- records of its owner, type and class
pub record IsSetFrom (records : List Record) (p : Piece) : Type 0 where
  pub data_are : (kind : ℕ) (each : List (List ℕ)) → p.slot.kind ≡ Some kind → p.body ≡ rows each
      → AreDataOf (record { name = p.owner; kind = kind; class = p.slot.class }) records each
  pub in_order : (kind : ℕ) (each : List (List ℕ)) → p.slot.kind ≡ Some kind → p.body ≡ rows each
      → AreInOrder (record { name = p.owner; kind = kind; class = p.slot.class }) records each
  pub spelled : (kind : ℕ) (each : List (List ℕ)) → p.slot.kind ≡ Some kind → p.body ≡ rows each
      → FirstOwns (record { name = p.owner; kind = kind; class = p.slot.class }) records p.owner
  pub lives : (kind : ℕ) (each : List (List ℕ)) → p.slot.kind ≡ Some kind → p.body ≡ rows each
      → IsLowestTtl (record { name = p.owner; kind = kind; class = p.slot.class }) records p.lifetime

-- Each set on the walk of a reply is the answer section's whole set of its name, type and class.
abbrev pub SetsAreWhole : Type 0
SetsAreWhole = (c : Config) (m : Message) (q : Question) (route : ℕ)
    → AllByRecursion (IsSetFrom m.answers) (walk_of c m q route).pieces

-- Each set of name servers next to the walk is the authority section's whole set.
abbrev pub ServerSetsAreWhole : Type 0
ServerSetsAreWhole = (c : Config) (m : Message) (q : Question) (route : ℕ)
    → AllByRecursion (IsSetFrom m.authority) (walk_of c m q route).authority

-- The code's reading of TTLs gives these seconds.
abbrev pub TopBitIsNone : Type 0
TopBitIsNone = (ttl : ℕ) → AreSeconds ttl (seconds_of ttl)

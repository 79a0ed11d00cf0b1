-- Statements about look-ups.
use Rattle.std.specs.Prelude.{◌≡◌, ◌≢◌, ◌≤◌, ℕ, true, false, ◌&&◌, List, length}
use Rattle.std.specs.List.{AllByRecursion}
use Rattle.dns_name.specs.Labels.{IsSame}
use Rattle.dns_message.specs.Values.{Question}
use Rattle.suffix_routes.specs.Values.{Route}
use Rattle.suffix_routes.specs.Routes.{route_of, is_denied}
use Rattle.record_cache.specs.TrustRank.declared.slot.Slot.{Slot}
use Rattle.record_cache.specs.TrustRank.Values.{Piece}
use Rattle.record_cache.specs.TrustRank.Replacing.{is_name_error, takes_place_of}
use Rattle.record_cache.specs.TrustRank.Formed.{IsPiece}
use Rattle.record_cache.specs.Values.{Held}
use Rattle.record_cache.specs.Ageing.{is_alive}
use Rattle.record_cache.specs.Entries.{promoted, AreHeld}
use Rattle.record_cache.specs.Laws.{Among}
use Rattle.negative_cache.specs.Values.{Found, local, rows, alias, no_data, denied, miss}
use Rattle.negative_cache.specs.Entries.{is_set, is_no_data, denies}
use Rattle.negative_cache.specs.Finding.{is_of_type, found, found_or_local}
use Rattle.negative_cache.specs.Stale.{is_within, stale}

-- a living entry of the list
pub record IsLiving (moment : ℕ) (entries : List Held) (h : Held) : Type 0 where
  pub among : Among h entries
  pub alive : is_alive moment h ≡ true

-- alive, and in the slot of the question's name and class and of this type
pub record IsTyped (moment : ℕ) (entries : List Held) (q : Question) (kind : ℕ) (h : Held) : Type 0 where
  pub living : IsLiving moment entries h
  pub slot : is_of_type q kind h ≡ true

-- a living name error of the question's class, at or above its name, whose own name has the route
-- of the question's name
pub record IsDenial (routes : List Route) (moment : ℕ) (entries : List Held) (q : Question) (h : Held) : Type 0 where
  pub living : IsLiving moment entries h
  pub denies : denies q.name q.class h ≡ true
  pub route : route_of routes h.piece.slot.key ≡ route_of routes q.name

-- the found entry fits the question
abbrev pub Fits : List Route → ℕ → List Held → Question → Found → Type 0
Fits routes moment entries q local = ⊥
Fits routes moment entries q (rows h) = IsTyped moment entries q q.kind h × (is_set h ≡ true)
Fits routes moment entries q (alias h) = IsTyped moment entries q 5 h × (is_set h ≡ true) × (q.kind ≢ 5)
Fits routes moment entries q (no_data h) = IsTyped moment entries q q.kind h × (is_no_data h ≡ true)
Fits routes moment entries q (denied h) = IsDenial routes moment entries q h
Fits routes moment entries q miss = Unit {0}

-- A look-up finds a living, fitting entry of the list: in the question's slot or in the alias's, or
-- a name error at or above the name, within the name's route.
abbrev pub FoundFits : Type 0
FoundFits = (routes : List Route) (moment : ℕ) (entries : List Held) (q : Question)
    → Fits routes moment entries q (found routes moment entries q)

-- no farther from the question's name than another entry
abbrev pub IsNearer : Found → Held → Type 0
IsNearer local other = ⊥
IsNearer (rows h) other = Unit {0}
IsNearer (alias h) other = Unit {0}
IsNearer (no_data h) other = Unit {0}
IsNearer (denied h) other = length other.piece.slot.key ≤ length h.piece.slot.key
IsNearer miss other = ⊥

-- If a living entry denies the name, no look-up misses, and no found name error is farther away.
abbrev pub NearestIsFound : Type 0
NearestIsFound = (routes : List Route) (moment : ℕ) (entries : List Held) (q : Question) (other : Held)
    → IsDenial routes moment entries q other
    → IsNearer (found routes moment entries q) other

-- no entry has a denied name
abbrev pub NoneIsDenied : List Route → List Held → Type 0
NoneIsDenied routes entries = AllByRecursion (λ h. is_denied routes h.piece.slot.key ≡ false) entries

-- If no entry has a denied name, nothing is found for such a name, alive or stale. So the look-up
-- need not check first whether the name is denied.
abbrev pub NothingIsFoundOfDenied : Type 0
NothingIsFoundOfDenied = (routes : List Route) (window moment : ℕ) (entries : List Held) (q : Question)
    → NoneIsDenied routes entries → is_denied routes q.name ≡ true
    → (found routes moment entries q ≡ miss) × (stale window moment entries q ≡ miss)

-- A promotion changes no look-up.
abbrev pub PromotionKeepsFound : Type 0
PromotionKeepsFound = (routes : List Route) (moment capacity : ℕ) (entries : List Held) (q : Question) (slot : Slot)
    → AreHeld (record { capacity = capacity; entries = entries })
    → found routes moment (promoted slot entries) q ≡ found routes moment entries q

-- Equal questions have equal look-ups, however their names are spelled.
abbrev pub EqualQuestionsFindTheSame : Type 0
EqualQuestionsFindTheSame = (routes : List Route) (moment : ℕ) (entries : List Held) (kind class : ℕ)
    → (name other : List (List ℕ)) → IsSame name other
    → found routes moment entries (record { name = name; kind = kind; class = class })
    ≡ found routes moment entries (record { name = other; kind = kind; class = class })

-- The name errors removed before an offer of a set or NODATA are exactly the replaced ones.
abbrev pub ShownIsReplaced : Type 0
ShownIsReplaced = (piece : Piece) (h : Held) → IsPiece piece → is_name_error piece ≡ false
    → denies piece.owner piece.slot.class h ≡ (is_name_error h.piece && takes_place_of piece h.piece)

-- a set of the list within the window, in the slot of the question's name and class and of this
-- type
pub record IsTypedWithin (window moment : ℕ) (entries : List Held) (q : Question) (kind : ℕ) (h : Held) : Type 0 where
  pub among : Among h entries
  pub slot : is_of_type q kind h ≡ true
  pub within : is_within window moment h ≡ true
  pub set : is_set h ≡ true

-- the found stale entry fits the question and the window, and is no denial
abbrev pub FitsWithin : ℕ → ℕ → List Held → Question → Found → Type 0
FitsWithin window moment entries q local = ⊥
FitsWithin window moment entries q (rows h) = IsTypedWithin window moment entries q q.kind h
FitsWithin window moment entries q (alias h) = IsTypedWithin window moment entries q 5 h × (q.kind ≢ 5)
FitsWithin window moment entries q (no_data h) = ⊥
FitsWithin window moment entries q (denied h) = ⊥
FitsWithin window moment entries q miss = Unit {0}

-- A look-up of stale entries finds a set of the list in the question's slot or in the alias's,
-- within the window.
abbrev pub StaleFits : Type 0
StaleFits = (window moment : ℕ) (entries : List Held) (q : Question)
    → FitsWithin window moment entries q (stale window moment entries q)

-- the found set or alias; a miss for any other outcome
abbrev pub set_or_alias : Found → Found
set_or_alias local = miss
set_or_alias (rows h) = rows h
set_or_alias (alias h) = alias h
set_or_alias (no_data h) = miss
set_or_alias (denied h) = miss
set_or_alias miss = miss

-- With a window of 0, a look-up of stale entries finds the living set or alias.
abbrev pub NoWindowFindsTheLiving : Type 0
NoWindowFindsTheLiving = (routes : List Route) (moment : ℕ) (entries : List Held) (q : Question)
    → stale 0 moment entries q ≡ set_or_alias (found routes moment entries q)

-- A promotion changes no look-up of stale entries.
abbrev pub PromotionKeepsStale : Type 0
PromotionKeepsStale = (window moment capacity : ℕ) (entries : List Held) (q : Question) (slot : Slot)
    → AreHeld (record { capacity = capacity; entries = entries })
    → stale window moment (promoted slot entries) q ≡ stale window moment entries q

-- Equal questions find equal stale entries, however their names are spelled.
abbrev pub EqualQuestionsFindTheSameStale : Type 0
EqualQuestionsFindTheSameStale = (window moment : ℕ) (entries : List Held) (kind class : ℕ)
    → (name other : List (List ℕ)) → IsSame name other
    → stale window moment entries (record { name = name; kind = kind; class = class })
    ≡ stale window moment entries (record { name = other; kind = kind; class = class })

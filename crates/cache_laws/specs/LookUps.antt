-- The order of a look-up (RFC 1034 3.6.2, RFC 2308 2, RFC 8020 2).
use Rattle.std.specs.Prelude.{◌≡◌, ◌≢◌, ◌<◌, ◌≤◌, ℕ, ◌+◌, ◌*◌, List, length, Option, Some, None}
use Rattle.dns_name.specs.Labels.{IsSame, IsUnder}
use Rattle.dns_message.specs.Values.{Question, Record}
use Rattle.suffix_routes.specs.Values.{Route}
use Rattle.suffix_routes.specs.Routes.{route_of}
use Rattle.trust_rank.specs.Values.{rows as set_rows, no_data as set_no_data}
use Rattle.record_cache.specs.Values.{Held}
use Rattle.record_cache.specs.Entries.{AreHeld}
use Rattle.record_cache.specs.Laws.{Among}
use Rattle.negative_cache.specs.Values.{rows, alias, no_data, denied, miss}
use Rattle.negative_cache.specs.Finding.{found}

-- an entry of the question's name (letter case aside) and class and of this type, before its end:
-- its lifetime after acceptance, in milliseconds (RFC 1035 3.2.1)
pub record IsLivingOf (moment : ℕ) (entries : List Held) (q : Question) (kind : ℕ) (h : Held) : Type 0 where
  pub among : Among h entries
  pub alive : moment < h.accepted + 1000 * h.piece.lifetime
  pub name : IsSame q.name h.piece.slot.key
  pub class : q.class ≡ h.piece.slot.class
  pub kind_is : h.piece.slot.kind ≡ Some kind

-- the living set of the asked type
pub record IsAskedSet (moment : ℕ) (entries : List Held) (q : Question) (h : Held) : Type 0 where
  pub living : IsLivingOf moment entries q q.kind h
  pub each : List (List ℕ)
  pub body : h.piece.body ≡ set_rows each

-- the living alias of the name, if the type is not CNAME (5)
pub record IsAskedAlias (moment : ℕ) (entries : List Held) (q : Question) (h : Held) : Type 0 where
  pub other : q.kind ≢ 5
  pub living : IsLivingOf moment entries q 5 h
  pub each : List (List ℕ)
  pub body : h.piece.body ≡ set_rows each

-- the living NODATA of the asked type
pub record IsAskedNoData (moment : ℕ) (entries : List Held) (q : Question) (h : Held) : Type 0 where
  pub living : IsLivingOf moment entries q q.kind h
  pub soa : Option Record
  pub body : h.piece.body ≡ set_no_data soa

-- a living name error, without a type, of the question's class, at or above its name and on the
-- name's route
pub record IsNameError (routes : List Route) (moment : ℕ) (entries : List Held) (q : Question) (h : Held) : Type 0 where
  pub among : Among h entries
  pub alive : moment < h.accepted + 1000 * h.piece.lifetime
  pub kind_is : h.piece.slot.kind ≡ None
  pub class : q.class ≡ h.piece.slot.class
  pub above : IsUnder q.name h.piece.slot.key
  pub route : route_of routes h.piece.slot.key ≡ route_of routes q.name

-- no entry is like this
abbrev pub HasNone : (Held → Type 0) → Type 0
HasNone P = (h : Held) → P h → ⊥

-- a living name error for the name, of which none has more labels
pub record IsNearestDenial (routes : List Route) (moment : ℕ) (entries : List Held) (q : Question)
    (h : Held) : Type 0 where
  pub denial : IsNameError routes moment entries q h
  pub nearest : (other : Held) → IsNameError routes moment entries q other
      → length other.piece.slot.key ≤ length h.piece.slot.key

-- the nearest name error was found
pub record FindsNearest (routes : List Route) (moment : ℕ) (entries : List Held) (q : Question) : Type 0 where
  pub h : Held
  pub found_is : found routes moment entries q ≡ denied h
  pub near : IsNearestDenial routes moment entries q h

-- The finding: the living set of the type, if any; otherwise the alias; otherwise NODATA; otherwise
-- the nearest name error; otherwise nothing.
pub record FindsInOrder (routes : List Route) (moment : ℕ) (entries : List Held) (q : Question) : Type 0 where
  pub set : (h : Held) → IsAskedSet moment entries q h → found routes moment entries q ≡ rows h
  pub alias_next : (h : Held) → HasNone (IsAskedSet moment entries q) → IsAskedAlias moment entries q h
      → found routes moment entries q ≡ alias h
  pub no_data_next : (h : Held) → HasNone (IsAskedSet moment entries q) → HasNone (IsAskedAlias moment entries q)
      → IsAskedNoData moment entries q h → found routes moment entries q ≡ no_data h
  pub denial_next : (h : Held) → HasNone (IsAskedSet moment entries q) → HasNone (IsAskedAlias moment entries q)
      → HasNone (IsAskedNoData moment entries q) → IsNameError routes moment entries q h
      → FindsNearest routes moment entries q
  pub miss_last : HasNone (IsAskedSet moment entries q) → HasNone (IsAskedAlias moment entries q)
      → HasNone (IsAskedNoData moment entries q) → HasNone (IsNameError routes moment entries q)
      → found routes moment entries q ≡ miss

-- A look-up among the entries of a cache, no two of one slot, finds in this order.
abbrev pub LookUpsFindInOrder : Type 0
LookUpsFindInOrder = (routes : List Route) (moment capacity : ℕ) (entries : List Held) (q : Question)
    → AreHeld (record { capacity = capacity; entries = entries }) → FindsInOrder routes moment entries q

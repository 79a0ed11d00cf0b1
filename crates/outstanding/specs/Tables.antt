-- Asks under the keys of a slab, and lists of the keys: one in the order of asking, and two
-- searched lists with numbers.
use Rattle.std.specs.Prelude.{◌≡◌, ◌≢◌, ℕ, ◌<◌, ◌≤◌, ◌^◌, true, List, length, map, Option, Some, None, IsSome}
use Rattle.std.specs.Prelude.{slice_index}
use Rattle.std.specs.List.{All, filter_map}
use Rattle.std.specs.Ordering.{nat_cmp, ordering_then}
use Rattle.std.specs.VecDeque.{deque_len, deque_capacity}
use Rattle.std.specs.declared.cmp.Ordering.{Ordering}
use Rattle.std.specs.declared.cmp.Ordering.TheVariants.{Less, Equal, Greater}
use Rattle.slab.specs.Slab.{Slab, get, HasRoomFor}
use Rattle.outstanding.specs.declared.ask.Path.{Path}
use Rattle.outstanding.specs.declared.keyed.QuestionKey.{QuestionKey}
use Rattle.outstanding.specs.declared.numbered.NumberedKey.{NumberedKey}
use Rattle.outstanding.specs.declared.table.Table.{Table}
use Rattle.outstanding.specs.Orders.{path_cmp, path_number, key_cmp, question_key}
use Rattle.outstanding.specs.Values.{Ask}

-- the asks under these keys
abbrev pub asks_under : Slab Ask → List ℕ → List Ask
asks_under s keys = filter_map (λ key. get s key) keys

-- the keys are the keys of the asks, each once
pub record Covers (s : Slab Ask) (keys : List ℕ) : Type 0 where
  pub present : (i : ℕ) → i < length keys → IsSome (get s (slice_index keys i))
  pub complete : (key : ℕ) → IsSome (get s key) → (i : ℕ) × (i < length keys) × (slice_index keys i ≡ key)
  pub apart : (i j : ℕ) → i < j → j < length keys → slice_index keys i ≢ slice_index keys j

-- the asks under these keys rise in an order, by a part of each
abbrev pub Rises : {K : Type 0} → (K → K → Ordering) → (Ask → K) → Slab Ask → List ℕ → Type 0
Rises R read s keys =
    (i j : ℕ) (a b : Ask) → i < j → j < length keys → get s (slice_index keys i) ≡ Some a
    → get s (slice_index keys j) ≡ Some b
    → R (read a) (read b) ≡ Less

-- the order of the ask under a key and the sought value; a key without an ask comes first
abbrev pub compared : (Ask → Ordering) → Option Ask → Ordering
compared f None = Less
compared f (Some a) = f a

-- the ask under the key at place i is the sought one
pub record IsAt (f : Ask → Ordering) (s : Slab Ask) (keys : List ℕ) (i : ℕ) : Type 0 where
  pub in_range : i < length keys
  pub equal : (a : Ask) → get s (slice_index keys i) ≡ Some a → f a ≡ Equal

-- the sought value would go to place i: exactly the asks before place i come before it
pub record IsGap (f : Ask → Ordering) (s : Slab Ask) (keys : List ℕ) (i : ℕ) : Type 0 where
  pub in_range : i ≤ length keys
  pub before : (j : ℕ) (a : Ask) → j < i → get s (slice_index keys j) ≡ Some a → f a ≡ Less
  pub later : (j : ℕ) (a : Ask) → i ≤ j → j < length keys → get s (slice_index keys j) ≡ Some a → f a ≡ Greater

-- the keys alone
abbrev pub keys_of : List NumberedKey → List ℕ
keys_of keys = map (λ k. k.key) keys

-- the item has the number of the ask under its key
abbrev pub HasNumber : (Ask → ℕ) → Slab Ask → NumberedKey → Type 0
HasNumber number s k = (a : Ask) → get s k.key ≡ Some a → k.number ≡ number a

-- each key is next to the number of its ask
abbrev pub AreNumbered : (Ask → ℕ) → Slab Ask → List NumberedKey → Type 0
AreNumbered number s keys = All (HasNumber number s) keys

-- the order of the ask under a key and a sought value with this number: different numbers decide
abbrev pub compared_by_number : ℕ → (Ask → Ordering) → Slab Ask → NumberedKey → Ordering
compared_by_number number f s k = ordering_then (nat_cmp k.number number) (compared f (get s k.key))

-- the order of an ask's path and this path
abbrev pub to_path : Path → Ask → Ordering
to_path path a = path_cmp a.path path

-- how the question of an ask compares with this key
abbrev pub to_question : QuestionKey → Ask → Ordering
to_question key a = key_cmp (question_key a.question) key

-- the asks of a table, in the order of asking
abbrev pub asks_of : {A : Type 0} → Table A → List Ask
asks_of t = asks_under t.asks t.by_arrival.keys

-- the three lists of keys cover the asks, and two of them rise
pub record AreIndexed (s : Slab Ask) (by_path by_question by_arrival : List ℕ) : Type 0 where
  pub paths : Covers s by_path
  pub paths_rise : Rises path_cmp (λ a. a.path) s by_path
  pub questions : Covers s by_question
  pub questions_rise : Rises key_cmp (λ a. question_key a.question) s by_question
  pub arrivals : Covers s by_arrival

-- and both lists have the numbers of their asks
pub record IsIndexed {A : Type 0} (t : Table A) : Type 0 where
  pub keys : AreIndexed t.asks (keys_of t.by_path.items) (keys_of t.by_question.items) t.by_arrival.keys
  pub path_numbers : AreNumbered (λ a. path_number a.path) t.asks t.by_path.items
  pub question_numbers : AreNumbered (λ a. (question_key a.question).number) t.asks t.by_question.items

-- one more ask does not allocate
pub record HasRoom {A : Type 0} (t : Table A) : Type 0 where
  pub asks : HasRoomFor t.asks 1
  pub by_path : deque_len t.by_path < deque_capacity t.by_path
  pub by_question : deque_len t.by_question < deque_capacity t.by_question
  pub by_arrival : t.by_arrival.has_room ≡ true
  pub known : t.asks.vacant_key < t.by_arrival.known
  pub small : t.asks.vacant_key < 2 ^ 32

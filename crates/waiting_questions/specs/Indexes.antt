-- Waiting questions under the keys of a slab, and two lists of the keys: in the order of arrival,
-- and by question, with numbers.
use Rattle.std.specs.Prelude.{◌≡◌, ◌≢◌, ℕ, ◌<◌, ◌≤◌, ◌+◌, ◌^◌, ◌==◌, ◌&&◌, Bool, true, false, nat_le, nat_lt}
use Rattle.std.specs.Prelude.{if◌then◌else◌, List, length, filter, map, Option, Some, None, IsSome, slice_index}
use Rattle.std.specs.List.{All, AllPairs, between, filter_map}
use Rattle.std.specs.List.Sorted.{IsPartitionPoint}
use Rattle.std.specs.Ordering.{is_lt, nat_cmp}
use Rattle.std.specs.VecDeque.{deque_len, deque_capacity}
use Rattle.std.specs.declared.cmp.Ordering.{Ordering}
use Rattle.std.specs.declared.cmp.Ordering.TheVariants.{Less, Equal, Greater}
use Rattle.slab.specs.Slab.{Slab, get, slab_len}
use Rattle.dns_message.specs.Values.{Question}
use Rattle.outstanding.specs.declared.keyed.QuestionKey.{QuestionKey}
use Rattle.outstanding.specs.declared.numbered.NumberedKey.{NumberedKey}
use Rattle.outstanding.specs.Orders.{key_cmp, question_key}
use Rattle.waiting_questions.specs.Values.{Waiting, waits_for}
use Rattle.waiting_questions.specs.declared.table.Table.{Table}

-- the waiting questions under these keys
abbrev pub waiting_under : Slab Waiting → List ℕ → List Waiting
waiting_under s keys = filter_map (λ key. get s key) keys

-- the keys without their numbers
abbrev pub keys_of : List NumberedKey → List ℕ
keys_of items = map (λ item. item.key) items

-- a test of the question under a key
abbrev pub passes : (Waiting → Bool) → Option Waiting → Bool
passes p None = false
passes p (Some x) = p x

-- the order of the wanted question's key and this key
abbrev pub to_question : QuestionKey → Waiting → Ordering
to_question key x = key_cmp (question_key x.wanted) key

-- the order by f under a slab key; a slab key without a question comes first
abbrev pub compared : (Waiting → Ordering) → Option Waiting → Ordering
compared f None = Less
compared f (Some x) = f x

-- the order of an item and this key; different numbers decide alone
abbrev pub compared_item : QuestionKey → Slab Waiting → NumberedKey → Ordering
compared_item key s item = if item.number == key.number then compared (to_question key) (get s item.key)
    else nat_cmp item.number key.number

-- in the order of their questions
abbrev pub IsByQuestion : Waiting → Waiting → Type 0
IsByQuestion a b = key_cmp (question_key a.wanted) (question_key b.wanted) ≢ Greater

-- in the order of taking
abbrev pub IsByTaken : Waiting → Waiting → Type 0
IsByTaken a b = a.taken ≤ b.taken

-- each key once, with a question under the key, and in an order
pub record AreKeys (L : Waiting → Waiting → Type 0) (s : Slab Waiting) (keys : List ℕ) : Type 0 where
  pub present : All (λ key. IsSome (get s key)) keys
  pub apart : AllPairs (λ j k. j ≢ k) keys
  pub in_order : AllPairs (λ j k. (a b : Waiting) → get s j ≡ Some a → get s k ≡ Some b → L a b) keys

-- each number is the number of the question under the key
abbrev pub AreNumbered : Slab Waiting → List NumberedKey → Type 0
AreNumbered s items = All (λ item. (a : Waiting) → get s item.key ≡ Some a
    → (question_key a.wanted).number ≡ item.number) items

-- both lists have equal keys; the keys of one question are in the order of arrival in both
pub record AreIndexed (s : Slab Waiting) (by_question by_arrival : List ℕ) : Type 0 where
  pub questions : AreKeys IsByQuestion s by_question
  pub arrivals : AreKeys IsByTaken s by_arrival
  pub same : (q : Question) → filter (λ key. passes (waits_for q) (get s key)) by_question
      ≡ filter (λ key. passes (waits_for q) (get s key)) by_arrival

-- exactly the keys before place i come before the sought question
abbrev pub BeginsAt : (Waiting → Ordering) → Slab Waiting → List ℕ → ℕ → Type 0
BeginsAt f s keys i = (i ≤ length keys)
    × IsPartitionPoint (λ key. is_lt (compared f (get s key)) ≡ true) (λ key. is_lt (compared f (get s key))
    ≡ false) keys i

-- the keys of the sought question are those from place i up to place j
pub record IsRange (f : Waiting → Ordering) (s : Slab Waiting) (keys : List ℕ) (i j : ℕ) : Type 0 where
  pub low : i ≤ j
  pub high : j ≤ length keys
  pub before : (k : ℕ) (a : Waiting) → k < i → get s (slice_index keys k) ≡ Some a → f a ≡ Less
  pub among : (k : ℕ) (a : Waiting) → i ≤ k → k < j → get s (slice_index keys k) ≡ Some a → f a ≡ Equal
  pub later : (k : ℕ) (a : Waiting) → j ≤ k → k < length keys → get s (slice_index keys k) ≡ Some a → f a ≡ Greater

-- a question waits under each key from place i up to place j
pub record ArePlaces (s : Slab Waiting) (items : List NumberedKey) (start end : ℕ) : Type 0 where
  pub low : start ≤ end
  pub high : end ≤ length items
  pub present : All (λ key. IsSome (get s key)) (between start end (keys_of items))

-- the questions of a table, in the order of arrival
abbrev pub items_of : {A : Type 0} → Table A → List Waiting
items_of t = waiting_under t.waiting t.by_arrival.keys

-- both lists are in order, and have the keys and numbers of the waiting questions
pub record IsIndexed {A : Type 0} (t : Table A) : Type 0 where
  pub lists : AreIndexed t.waiting (keys_of t.by_question.items) t.by_arrival.keys
  pub numbers : AreNumbered t.waiting t.by_question.items

-- one more question needs no allocation, and its key takes at most 32 bits
abbrev pub has_room : {A : Type 0} → Table A → Bool
has_room t =
    nat_le (slab_len t.waiting + 1) t.waiting.capacity
    && (nat_lt (deque_len t.by_question) (deque_capacity t.by_question)
    && (t.by_arrival.has_room && (nat_lt t.waiting.vacant_key t.by_arrival.known && nat_lt t.waiting.vacant_key (2 ^ 32))))

-- Keys with numbers: the keys alone, one key more or less, and comparisons decided by the numbers.
use Rattle.std.proofs.Common.{◌≡◌, ℕ, suc, ◌+◌, ◌<◌, ◌≤◌, ◌==◌, List, ◌∷◌, ◌++◌, length, take, drop, slice_get, slice_index, slice_index_or, Bool, true, false, if◌then◌else◌, Some, None, IsSome, Ordering, Less, Equal, Greater, nat_cmp, is_eq, refl, sym, ap, ap₂, ◌∙◌, subst, arith}
use Rattle.std.specs.Ordering.{ordering_then}
use Rattle.std.specs.List.{between, insert, remove, remove_range}
use Rattle.std.specs.List.Sorted.{IsPartitionedBy, IsPartitionPoint}
use Rattle.std.proofs.lemmas.Bool.{true≢false}
use Rattle.std.proofs.lemmas.Bool.Decides.{nat_tests}
use Rattle.std.proofs.lemmas.Option.{none-some, same_Some}
use Rattle.std.proofs.lemmas.List.{get_or-map, length-map, map-append, take-map, drop-map}
use Rattle.std.proofs.lemmas.List.Edits.{length-between, get_or-between}
use Rattle.std.proofs.lemmas.List.Elements.{All-append, All-take, All-drop}
use Rattle.slab.specs.Slab.{Slab, get, Updates}
use Rattle.outstanding.specs.declared.keyed.QuestionKey.{QuestionKey}
use Rattle.outstanding.specs.declared.numbered.NumberedKey.{NumberedKey}
use Rattle.outstanding.specs.Orders.{question_key}
use Rattle.waiting_questions.specs.Values.{Waiting}
use Rattle.waiting_questions.specs.Indexes.{keys_of, compared, compared_item, to_question, waiting_under, AreNumbered, ArePlaces}
use Rattle.waiting_questions.proofs.Lists.{all_insert}
use Rattle.waiting_questions.proofs.Keys.{value_of, at_under, place_under, ArePresent}

-- ---- the keys alone

pub length_keys : (items : List NumberedKey) → length (keys_of items) ≡ length items
length_keys items = length-map items (λ item. item.key)

pub key_at : (items : List NumberedKey) (i : ℕ) (d : NumberedKey) (e : ℕ) → i < length items → slice_index_or (keys_of items) i e ≡ (slice_index_or items i d).key
key_at items i d e within = get_or-map (λ (item : NumberedKey). item.key) items i d e within

-- the key read by an index
pub key_read : (items : List NumberedKey) (i : ℕ) (item : NumberedKey) → i < length items → item ≡ slice_index_or items i item → item.key ≡ slice_index_or (keys_of items) i item.key
key_read items i item within read = ap (λ (n : NumberedKey). n.key) read ∙ sym (key_at items i item item.key within)

pub keys_insert : (items : List NumberedKey) (i : ℕ) (item : NumberedKey) → keys_of (insert items i item) ≡ insert (keys_of items) i item.key
keys_insert items i item =
    map-append (λ (n : NumberedKey). n.key) (take i items) (item ∷ drop i items)
    ∙ ap₂ (λ (xs ys : List ℕ). xs ++ item.key ∷ ys) (sym (take-map (λ (n : NumberedKey). n.key) i items)) (sym (drop-map (λ (n : NumberedKey). n.key) i items))

pub keys_remove_range : (items : List NumberedKey) (i j : ℕ) → keys_of (remove_range items i j) ≡ remove_range (keys_of items) i j
keys_remove_range items i j =
    map-append (λ (n : NumberedKey). n.key) (take i items) (drop j items)
    ∙ ap₂ (λ (xs ys : List ℕ). xs ++ ys) (sym (take-map (λ (n : NumberedKey). n.key) i items)) (sym (drop-map (λ (n : NumberedKey). n.key) j items))

pub keys_remove : (items : List NumberedKey) (i : ℕ) → keys_of (remove items i) ≡ remove (keys_of items) i
keys_remove items i = keys_remove_range items i (suc i)

-- ---- the numbers

-- the number under a key of the slab
abbrev IsNumber : Slab Waiting → NumberedKey → Type 0
IsNumber s item = (a : Waiting) → get s item.key ≡ Some a → (question_key a.wanted).number ≡ item.number

-- one more key
pub numbers_put : (s s' : Slab Waiting) (items : List NumberedKey) → ArePresent s (keys_of items) → AreNumbered s items → (x : Waiting) (item : NumberedKey) → get s item.key ≡ None → Updates s s' item.key (Some x)
    → item.number ≡ (question_key x.wanted).number → (i : ℕ) → AreNumbered s' (insert items i item)
numbers_put s s' items present numbered x item was updates number i = all_insert (IsNumber s') items i item new old
  where
    new : IsNumber s' item
    new a e = ap (λ (z : Waiting). (question_key z.wanted).number) (sym (same_Some x a (sym updates.changed ∙ e))) ∙ sym number

    old : AreNumbered s' items
    old k d within a e = numbered k d within a (sym (updates.others (slice_index_or items k d).key other) ∙ e)
      where
        other : (slice_index_or items k d).key ≡ item.key → ⊥
        other same =
            let v = value_of (get s (slice_index (keys_of items) k)) (present k 0 (omega (arith, within, length_keys items))) in
            none-some v.0 (sym was ∙ ap (get s) (sym same ∙ sym (key_at items k d 0 within)) ∙ v.1)

-- more room changes nothing
pub room_numbered : (s s' : Slab Waiting) (items items' : List NumberedKey) → s' ≡ record s { capacity = s'.capacity } → items' ≡ items → AreNumbered s items → AreNumbered s' items'
room_numbered s s' items items' slab same numbered =
    let roomy : Slab Waiting = record s { capacity = s'.capacity } in
    let more : AreNumbered roomy items = numbered in
    subst (λ (z : Slab Waiting). AreNumbered z items') (sym slab) (subst (AreNumbered roomy) (sym same) more)

-- one key less
pub numbers_left : (s s' : Slab Waiting) (items : List NumberedKey) (key : ℕ) → Updates s s' key None → AreNumbered s items → AreNumbered s' items
numbers_left s s' items key updates numbered k d within a e =
    numbered k d within a (sym (updates.others (slice_index_or items k d).key (λ same. none-some a (sym updates.changed ∙ ap (get s') (sym same) ∙ e))) ∙ e)

pub numbers_without : (s : Slab Waiting) (items : List NumberedKey) (i j : ℕ) → AreNumbered s items → AreNumbered s (remove_range items i j)
numbers_without s items i j numbered = All-append (IsNumber s) (take i items) (drop j items) (All-take (IsNumber s) i items numbered) (All-drop (IsNumber s) j items numbered)

-- ---- comparisons

-- an order decides alone unless equal
then_alone : (o r : Ordering) → is_eq o ≡ false → ordering_then o r ≡ o
then_alone Less r apart = refl
then_alone Equal r apart = absurd (true≢false apart)
then_alone Greater r apart = refl

numbers_tell : (a b : ℕ) → is_eq (nat_cmp a b) ≡ (a == b)
numbers_tell a b = grind (arith, nat_tests)

-- the number decides alone if different
by_item : (s : Slab Waiting) (q : QuestionKey) (item : NumberedKey) (a : Waiting) → get s item.key ≡ Some a → (question_key a.wanted).number ≡ item.number → compared_item q s item ≡ to_question q a
by_item s q item a here number = by (item.number == q.number) refl
  where
    by : (b : Bool) → (item.number == q.number) ≡ b → (if b then compared (to_question q) (get s item.key) else nat_cmp item.number q.number) ≡ to_question q a
    by true e = ap (compared (to_question q)) here
    by false e =
        ap (λ n. nat_cmp n q.number) (sym number)
        ∙ sym (then_alone (nat_cmp (question_key a.wanted).number q.number) _ (numbers_tell (question_key a.wanted).number q.number ∙ ap (λ n. n == q.number) number ∙ e))

module _ (s : Slab Waiting) (items : List NumberedKey) (present : ArePresent s (keys_of items)) (numbered : AreNumbered s items) (q : QuestionKey) where
  -- the numbered key and the question decide alike
  pub told_alike : (k : ℕ) (d : NumberedKey) (e : ℕ) → k < length items → compared_item q s (slice_index_or items k d) ≡ compared (to_question q) (get s (slice_index_or (keys_of items) k e))
  told_alike k d e within =
      let v = value_of (get s (slice_index_or (keys_of items) k e)) (present k e (omega (arith, within, length_keys items))) in
      let here : get s (slice_index_or items k d).key ≡ Some v.0 = ap (get s) (sym (key_at items k d e within)) ∙ v.1 in
      by_item s q (slice_index_or items k d) v.0 here (numbered k d within v.0 here) ∙ sym (ap (compared (to_question q)) v.1)

  -- the item read by an index
  pub told_by_item : (k : ℕ) (item : NumberedKey) → k < length items → item ≡ slice_index_or items k item → compared_item q s item ≡ compared (to_question q) (get s (slice_index (keys_of items) k))
  told_by_item k item within read = ap (compared_item q s) read ∙ told_alike k item 0 within

  pub parted_items : (test : Ordering → Bool) → IsPartitionedBy (λ key. test (compared (to_question q) (get s key))) (keys_of items) → IsPartitionedBy (λ item. test (compared_item q s item)) items
  parted_items test parted i j d le within passed =
      ap test (told_alike i d 0 (omega arith)) ∙ parted i j 0 le (omega (arith, within, length_keys items)) (sym (ap test (told_alike j d 0 within)) ∙ passed)

  -- a search of the numbered keys ends like a search of the keys
  pub point_of_keys : (test : Ordering → Bool) (i : ℕ) → i ≤ length items
      → IsPartitionPoint (λ item. test (compared_item q s item) ≡ true) (λ item. test (compared_item q s item) ≡ false) items i
      → IsPartitionPoint (λ key. test (compared (to_question q) (get s key)) ≡ true) (λ key. test (compared (to_question q) (get s key)) ≡ false) (keys_of items) i
  point_of_keys test i i_in point =
      let any : NumberedKey = record { number = 0; key = 0 } in (
        (λ k d from less. sym (ap test (told_alike k any d (omega arith))) ∙ point.0 k any from less),
        (λ k d from within. let inside : k < length items = omega (arith, within, length_keys items) in sym (ap test (told_alike k any d inside)) ∙ point.1 k any from inside),
      )

-- ---- places

-- the questions with keys from place i up to place j
module _ (s : Slab Waiting) (items : List NumberedKey) (i j : ℕ) (are : ArePlaces s items i j) (those : List Waiting) (is : waiting_under s (between i j (keys_of items)) ≡ those) (place : ℕ) (within : place < length those) where
  among : place < length (between i j (keys_of items))
  among = place_under s (between i j (keys_of items)) those place are.present is within

  pub before_end : i + place < j
  before_end = omega (arith, among, length-between (keys_of items) i j (omega (arith, are.high, length_keys items)))

  there : slice_index (between i j (keys_of items)) place ≡ slice_index (keys_of items) (i + place)
  there = get_or-between (keys_of items) i j place 0 before_end

  pub waits_there : IsSome (get s (slice_index (keys_of items) (i + place)))
  waits_there = subst (λ (n : ℕ). IsSome (get s n)) there (are.present place 0 among)

  pub those_there : slice_get those place ≡ get s (slice_index (keys_of items) (i + place))
  those_there = ap (λ (xs : List Waiting). slice_get xs place) (sym is) ∙ at_under s (between i j (keys_of items)) place are.present among ∙ ap (get s) there

-- Ranges of keys: the result of a search, and the passing keys.
use Rattle.std.proofs.Common.{◌≡◌, ◌≢◌, ◌⊎◌, ℕ, suc, ◌+◌, ◌<◌, ◌≤◌, List, length, slice_index, slice_index_or, Bool, true, false, Some, None, Ordering, Less, Equal, Greater, is_eq, is_lt, is_le, refl, sym, ap, ◌∙◌, inl, inr, arith}
use Rattle.std.specs.Prelude.{filter}
use Rattle.std.specs.Ordering.{ordering_reverse}
use Rattle.std.specs.List.{between, remove}
use Rattle.std.specs.List.Sorted.{IsPartitionedBy, IsPartitionPoint}
use Rattle.std.proofs.lemmas.Bool.{cases_lt, false≢true}
use Rattle.std.proofs.lemmas.Cmp.{alike_right, tied_itself}
use Rattle.std.proofs.lemmas.List.{get_or_default}
use Rattle.std.proofs.lemmas.List.Edits.{length-remove, get_or-remove_below, get_or-remove_above}
use Rattle.slab.specs.Slab.{Slab, get, Updates}
use Rattle.dns_message.specs.Values.{Question}
use Rattle.outstanding.specs.declared.keyed.QuestionKey.{QuestionKey}
use Rattle.outstanding.specs.Orders.{key_cmp, question_key}
use Rattle.outstanding.proofs.CallerLemmas.{question_keys_are_ordered, same_question_by_keys}
use Rattle.waiting_questions.specs.Values.{Waiting, waits_for}
use Rattle.waiting_questions.specs.Indexes.{passes, compared, to_question, IsByQuestion, AreKeys, IsRange}
use Rattle.waiting_questions.proofs.Lists.{filter_between}
use Rattle.waiting_questions.proofs.Keys.{value_of, ArePresent}

-- ---- tests by a comparison

-- if b follows a in order, and b is below q, a is below q
below : (a b : Waiting) (q : QuestionKey) → IsByQuestion a b → is_lt (to_question q b) ≡ true → is_lt (to_question q a) ≡ true
below a b q in_order lower = by (key_cmp (question_key a.wanted) (question_key b.wanted)) (to_question q b) refl refl lower
  where
    by : (o r : Ordering) → key_cmp (question_key a.wanted) (question_key b.wanted) ≡ o → to_question q b ≡ r → is_lt r ≡ true → is_lt (to_question q a) ≡ true
    by Less Less e f t = ap is_lt (question_keys_are_ordered.trans (question_key a.wanted) (question_key b.wanted) q e f)
    by Equal Less e f t = ap is_lt (question_keys_are_ordered.congr (question_key a.wanted) (question_key b.wanted) q e ∙ f)
    by Greater Less e f t = absurd (in_order e)
    by o Equal e f t = absurd (false≢true t)
    by o Greater e f t = absurd (false≢true t)

upto : (a b : Waiting) (q : QuestionKey) → IsByQuestion a b → is_le (to_question q b) ≡ true → is_le (to_question q a) ≡ true
upto a b q in_order lower = by (key_cmp (question_key a.wanted) (question_key b.wanted)) (to_question q b) refl refl lower
  where
    by : (o r : Ordering) → key_cmp (question_key a.wanted) (question_key b.wanted) ≡ o → to_question q b ≡ r → is_le r ≡ true → is_le (to_question q a) ≡ true
    by Less Less e f t = ap is_le (question_keys_are_ordered.trans (question_key a.wanted) (question_key b.wanted) q e f)
    by Less Equal e f t = ap is_le (sym (alike_right question_keys_are_ordered (question_key b.wanted) q (question_key a.wanted) f) ∙ e)
    by Equal Less e f t = ap is_le (question_keys_are_ordered.congr (question_key a.wanted) (question_key b.wanted) q e ∙ f)
    by Equal Equal e f t = ap is_le (question_keys_are_ordered.congr (question_key a.wanted) (question_key b.wanted) q e ∙ f)
    by Greater r e f t = absurd (in_order e)
    by o Greater e f t = absurd (false≢true t)

less_from : (o : Ordering) → is_lt o ≡ true → o ≡ Less
less_from Less t = refl
less_from Equal t = absurd (false≢true t)
less_from Greater t = absurd (false≢true t)

greater_from : (o : Ordering) → is_le o ≡ false → o ≡ Greater
greater_from Less t = absurd (false≢true (sym t))
greater_from Equal t = absurd (false≢true (sym t))
greater_from Greater t = refl

equal_from : (o : Ordering) → is_lt o ≡ false → is_le o ≡ true → o ≡ Equal
equal_from Less f t = absurd (false≢true (sym f))
equal_from Equal f t = refl
equal_from Greater f t = absurd (false≢true t)

-- ---- the range of a question

module _ (s : Slab Waiting) (keys : List ℕ) (are : AreKeys IsByQuestion s keys) (q : QuestionKey) where
  abbrev pub told : ℕ → Ordering
  told key = compared (to_question q) (get s key)

  parted : (test : Ordering → Bool) → ((a b : Waiting) → IsByQuestion a b → test (to_question q b) ≡ true → test (to_question q a) ≡ true) → IsPartitionedBy (λ key. test (told key)) keys
  parted test step i j d le within passed = by (cases_lt i j)
    where
      by : (i < j) ⊎ (j ≤ i) → test (told (slice_index_or keys i d)) ≡ true
      by (inl less) =
          let a = value_of (get s (slice_index_or keys i d)) (are.present i d (omega arith)) in
          let b = value_of (get s (slice_index_or keys j d)) (are.present j d within) in
          ap (λ o. test (compared (to_question q) o)) a.1
          ∙ step a.0 b.0 (are.in_order i j d less within a.0 b.0 a.1 b.1) (sym (ap (λ o. test (compared (to_question q) o)) b.1) ∙ passed)
      by (inr more) = let same : i ≡ j = omega arith in ap (λ n. test (told (slice_index_or keys n d))) same ∙ passed

  pub lower_parted : IsPartitionedBy (λ key. is_lt (told key)) keys
  lower_parted = parted is_lt (λ a b. below a b q)

  pub upper_parted : IsPartitionedBy (λ key. is_le (told key)) keys
  upper_parted = parted is_le (λ a b. upto a b q)

  is_lt_le : (o : Ordering) → is_lt o ≡ true → is_le o ≡ true
  is_lt_le Less t = refl
  is_lt_le Equal t = refl
  is_lt_le Greater t = t

  at : (key : ℕ) (a : Waiting) → get s key ≡ Some a → to_question q a ≡ told key
  at key a e = sym (ap (compared (to_question q)) e)

  pub range_from : (i j : ℕ) → i ≤ length keys → j ≤ length keys
      → IsPartitionPoint (λ key. is_lt (told key) ≡ true) (λ key. is_lt (told key) ≡ false) keys i
      → IsPartitionPoint (λ key. is_le (told key) ≡ true) (λ key. is_le (told key) ≡ false) keys j → IsRange (to_question q) s keys i j
  range_from i j i_in j_in lower upper = record {
    low = by (cases_lt j i);
    high = j_in;
    before = λ k a less e. at (slice_index keys k) a e ∙ less_from (told (slice_index keys k)) (lower.0 k 0 (omega arith) less);
    among = λ k a from less e. at (slice_index keys k) a e ∙ equal_from (told (slice_index keys k)) (lower.1 k 0 from (omega (arith, j_in))) (upper.0 k 0 (omega arith) less);
    later = λ k a from within e. at (slice_index keys k) a e ∙ greater_from (told (slice_index keys k)) (upper.1 k 0 from within);
  }
    where
      by : (j < i) ⊎ (i ≤ j) → i ≤ j
      by (inr le) = le
      by (inl less) = absurd (false≢true (sym (upper.1 j 0 (omega arith) (omega (arith, i_in))) ∙ is_lt_le (told (slice_index keys j)) (lower.0 j 0 (omega arith) less)))

  -- the first key above the sought question
  pub ends_at : (j : ℕ) → j < length keys → ((k : ℕ) → k < j → is_le (told (slice_index keys k)) ≡ true) → is_le (told (slice_index keys j)) ≡ false
      → IsPartitionPoint (λ key. is_le (told key) ≡ true) (λ key. is_le (told key) ≡ false) keys j
  ends_at j j_in before later = (
    (λ k d from less. ap (λ key. is_le (told key)) (get_or_default keys k d 0 (omega (arith, less, j_in))) ∙ before k less),
    (λ k d from within. by k d from within (is_le (told (slice_index_or keys k d))) refl),
  )
    where
      by : (k d : ℕ) → j ≤ k → k < length keys → (b : Bool) → is_le (told (slice_index_or keys k d)) ≡ b → is_le (told (slice_index_or keys k d)) ≡ false
      by k d from within false e = e
      by k d from within true e = absurd (false≢true (sym (ap (λ key. is_le (told key)) (get_or_default keys j d 0 j_in) ∙ later) ∙ upper_parted j k d from within e))

  -- keys below the sought question are no higher, up to here
  pub not_behind : (i : ℕ) → ((k : ℕ) → k < i → is_lt (told (slice_index keys k)) ≡ true) → (k : ℕ) → k < i → is_le (told (slice_index keys k)) ≡ true
  not_behind i lower k less = is_lt_le (told (slice_index keys k)) (lower k less)

-- ---- the passing keys

pub waits_by_key : (q : Question) (a : Waiting) → waits_for q a ≡ is_eq (to_question (question_key q) a)
waits_by_key q a = same_question_by_keys a.wanted q

-- a question waits for itself
pub waits_itself : (a : Waiting) → waits_for a.wanted a ≡ true
waits_itself a = waits_by_key a.wanted a ∙ ap is_eq (tied_itself question_keys_are_ordered (question_key a.wanted))

abbrev pub waits_at : Slab Waiting → Question → ℕ → Bool
waits_at s q key = passes (waits_for q) (get s key)

module _ (s : Slab Waiting) (keys : List ℕ) (present : ArePresent s keys) (q : Question) (i j : ℕ) (range : IsRange (to_question (question_key q)) s keys i j) where
  test : (k : ℕ) (o : Ordering) → k < length keys → ((a : Waiting) → get s (slice_index keys k) ≡ Some a → to_question (question_key q) a ≡ o) → waits_at s q (slice_index keys k) ≡ is_eq o
  test k o within is =
      let a = value_of (get s (slice_index keys k)) (present k 0 within) in
      ap (passes (waits_for q)) a.1 ∙ waits_by_key q a.0 ∙ ap is_eq (is a.0 a.1)

  pub waits_among : (k : ℕ) → i ≤ k → k < j → waits_at s q (slice_index keys k) ≡ true
  waits_among k from less = test k Equal (omega (arith, range.high)) (λ a. range.among k a from less)

  pub waits_not_before : (k : ℕ) → k < i → waits_at s q (slice_index keys k) ≡ false
  waits_not_before k less = test k Less (omega (arith, less, range.low, range.high)) (λ a. range.before k a less)

  pub passes_between : filter (waits_at s q) keys ≡ between i j keys
  passes_between =
      filter_between (waits_at s q) keys i j 0 range.low range.high
      (λ k less. test k Less (omega (arith, range.low, range.high)) (λ a. range.before k a less))
      waits_among
      (λ k from within. test k Greater within (λ a. range.later k a from within))

-- ---- one more key

-- the range of a new question ends at the question's place
module _ (s : Slab Waiting) (keys : List ℕ) (present : ArePresent s keys) (x : Waiting) (i j : ℕ) (range : IsRange (to_question (question_key x.wanted)) s keys i j) where
  pub goes_behind : (k : ℕ) (a : Waiting) → k < j → get s (slice_index keys k) ≡ Some a → IsByQuestion a x
  goes_behind k a less e is = by (cases_lt k i)
    where
      by : (k < i) ⊎ (i ≤ k) → ⊥
      by (inl low) = let o : key_cmp (question_key a.wanted) (question_key x.wanted) ≡ Less = range.before k a low e in cc
      by (inr le) = let o : key_cmp (question_key a.wanted) (question_key x.wanted) ≡ Equal = range.among k a le less e in cc

  pub goes_before : (k : ℕ) (a : Waiting) → j ≤ k → k < length keys → get s (slice_index keys k) ≡ Some a → IsByQuestion x a
  goes_before k a from within e is =
      let o : key_cmp (question_key a.wanted) (question_key x.wanted) ≡ Greater = range.later k a from within e in
      let back : key_cmp (question_key x.wanted) (question_key a.wanted) ≡ Less = question_keys_are_ordered.antisymm (question_key x.wanted) (question_key a.wanted) ∙ ap ordering_reverse o in
      cc

  -- also for a place among the question's range
  pub goes_before_those : (k : ℕ) (a : Waiting) → i ≤ k → k < length keys → get s (slice_index keys k) ≡ Some a → IsByQuestion x a
  goes_before_those k a from within e is = by (cases_lt k j)
    where
      by : (k < j) ⊎ (j ≤ k) → ⊥
      by (inl less) =
          let o : key_cmp (question_key a.wanted) (question_key x.wanted) ≡ Equal = range.among k a from less e in
          let back : key_cmp (question_key x.wanted) (question_key a.wanted) ≡ Equal = question_keys_are_ordered.antisymm (question_key x.wanted) (question_key a.wanted) ∙ ap ordering_reverse o in
          cc
      by (inr later) = goes_before k a later within e is

  -- no question waiting for an equal question comes later
  pub none_behind : (q : Question) → waits_for q x ≡ true → (k : ℕ) → j ≤ k → k < length keys → waits_at s q (slice_index keys k) ≡ false
  none_behind q waits k from within =
      let a = value_of (get s (slice_index keys k)) (present k 0 within) in
      let o : key_cmp (question_key a.0.wanted) (question_key x.wanted) ≡ Greater = range.later k a.0 from within a.1 in
      let same : key_cmp (question_key x.wanted) (question_key q) ≡ Equal = eq_from (key_cmp (question_key x.wanted) (question_key q)) (sym (waits_by_key q x) ∙ waits) in
      ap (passes (waits_for q)) a.1 ∙ waits_by_key q a.0
      ∙ ap is_eq (sym (alike_right question_keys_are_ordered (question_key x.wanted) (question_key q) (question_key a.0.wanted) same) ∙ o)
    where
      eq_from : (o : Ordering) → is_eq o ≡ true → o ≡ Equal
      eq_from Less t = absurd (false≢true t)
      eq_from Equal t = refl
      eq_from Greater t = absurd (false≢true t)

-- ---- one key less

-- the last key of a range goes
pub range_left : (L : Waiting → Waiting → Type 0) (s s' : Slab Waiting) (keys : List ℕ) (f : Waiting → Ordering) (i p : ℕ) → AreKeys L s keys → i ≤ p → IsRange f s keys i (suc p) → Updates s s' (slice_index keys p) None → IsRange f s' (remove keys p) i p
range_left L s s' keys f i p are le range updates =
    let short : length (remove keys p) + 1 ≡ length keys = length-remove keys p (omega (arith, range.high)) in
    let stays : (k : ℕ) → k < length keys → k ≢ p → get s' (slice_index keys k) ≡ get s (slice_index keys k) =
    λ k within other. updates.others (slice_index keys k) (λ same. elim (cases_lt k p) [
      | inl less ↦ are.apart k p 0 less (omega (arith, range.high)) same
      | inr more ↦ are.apart p k 0 (omega (arith, other)) within (sym same)
    ])
    in
    let below : (k : ℕ) (a : Waiting) → k < p → get s' (slice_index (remove keys p) k) ≡ Some a → get s (slice_index keys k) ≡ Some a =
    λ k a less e. sym (stays k (omega (arith, range.high)) (λ same. omega (arith, same))) ∙ sym (ap (get s') (get_or-remove_below keys p 0 k less (omega (arith, range.high)))) ∙ e
    in
    let above : (k : ℕ) (a : Waiting) → p ≤ k → k < length (remove keys p) → get s' (slice_index (remove keys p) k) ≡ Some a → get s (slice_index keys (k + 1)) ≡ Some a =
    λ k a from within e. sym (stays (k + 1) (omega (arith, short)) (λ same. omega (arith, same))) ∙ sym (ap (get s') (get_or-remove_above keys p 0 k from (omega (arith, range.high)))) ∙ e
    in
    record {
      low = le;
      high = omega (arith, short, range.high);
      before = λ k a less e. range.before k a less (below k a (omega arith) e);
      among = λ k a from less e. range.among k a from (omega arith) (below k a less e);
      later = λ k a from within e. range.later (k + 1) a (omega arith) (omega (arith, short)) (above k a from within e);
    }

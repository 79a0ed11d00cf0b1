-- Questions under keys, and one key more or less.
use Rattle.std.proofs.Common.{◌≡◌, ◌≢◌, ℕ, zero, suc, ◌<◌, ◌≤◌, ◌==◌, List, [], ◌∷◌, ◌++◌, length, take, drop, slice_get, slice_index, Bool, true, false, cond, not, Option, Some, None, IsSome, refl, sym, ap, ◌∙◌, subst, arith}
use Rattle.std.specs.Prelude.{filter}
use Rattle.std.specs.List.{All, AllPairs, insert, remove, cons_option}
use Rattle.std.proofs.lemmas.Bool.{false≢true}
use Rattle.std.proofs.lemmas.Option.{none-some, same_Some}
use Rattle.std.proofs.lemmas.List.Elements.{All-head, All-tail, All-weaker, All-take, All-drop, All-filter, filter_passes, filter_map-append}
use Rattle.std.proofs.lemmas.List.Kept.{AllPairs-filter}
use Rattle.slab.specs.Slab.{Slab, get, Updates}
use Rattle.waiting_questions.specs.Values.{Waiting}
use Rattle.waiting_questions.specs.Indexes.{waiting_under, passes, AreKeys}
use Rattle.waiting_questions.proofs.Lists.{all_insert, pairs_insert, others, others_differ}

-- the value of an option with a value
pub value_of : {X : Type 0} (o : Option X) → IsSome o → (x : X) × (o ≡ Some x)
value_of None some = absurd (false≢true some)
value_of (Some x) some = (x, refl)

pub is_some_of : {X : Type 0} (o : Option X) (x : X) → o ≡ Some x → IsSome o
is_some_of o x e = subst (λ o. IsSome o) (sym e) refl

abbrev pub ArePresent : Slab Waiting → List ℕ → Type 0
ArePresent s keys = All (λ key. IsSome (get s key)) keys

-- ---- the waiting questions

-- as many questions as keys
pub length_under : (s : Slab Waiting) (keys : List ℕ) → ArePresent s keys → length (waiting_under s keys) ≡ length keys
length_under s [] present = refl
length_under s (k ∷ keys) present =
    let a = value_of (get s k) (All-head (λ j. IsSome (get s j)) k keys present) in
    ap (λ o. length (cons_option o (waiting_under s keys))) a.1 ∙ ap suc (length_under s keys (All-tail (λ j. IsSome (get s j)) k keys present))

pub at_under : (s : Slab Waiting) (keys : List ℕ) (i : ℕ) → ArePresent s keys → i < length keys → slice_get (waiting_under s keys) i ≡ get s (slice_index keys i)
at_under s [] i present within = absurd (omega arith)
at_under s (k ∷ keys) zero present within =
    let a = value_of (get s k) (All-head (λ j. IsSome (get s j)) k keys present) in
    ap (λ o. slice_get (cons_option o (waiting_under s keys)) 0) a.1 ∙ sym a.1
at_under s (k ∷ keys) (suc i) present within =
    let a = value_of (get s k) (All-head (λ j. IsSome (get s j)) k keys present) in
    ap (λ o. slice_get (cons_option o (waiting_under s keys)) (suc i)) a.1
    ∙ at_under s keys i (All-tail (λ j. IsSome (get s j)) k keys present) (omega arith)

-- the question under the first key is the first
pub first_under : (s : Slab Waiting) (keys : List ℕ) (key : ℕ) (x : Waiting) → slice_get keys 0 ≡ Some key → get s key ≡ Some x → slice_get (waiting_under s keys) 0 ≡ Some x
first_under s [] key x first here = absurd (none-some key first)
first_under s (k ∷ keys) key x first here = ap (λ o. slice_get (cons_option o (waiting_under s keys)) 0) (ap (get s) (same_Some k key first) ∙ here)

-- a place among the questions is a place among the keys
pub place_under : (s : Slab Waiting) (keys : List ℕ) (items : List Waiting) (place : ℕ) → ArePresent s keys → waiting_under s keys ≡ items → place < length items → place < length keys
place_under s keys items place present are within = omega (arith, within, length_under s keys present, ap length are)

-- slabs with equal values under these keys have equal questions under them
pub same_under : (s s' : Slab Waiting) (keys : List ℕ) → All (λ j. get s' j ≡ get s j) keys → waiting_under s' keys ≡ waiting_under s keys
same_under s s' [] same = refl
same_under s s' (k ∷ keys) same =
    ap (λ o. cons_option o (waiting_under s' keys)) (All-head (λ j. get s' j ≡ get s j) k keys same)
    ∙ ap (cons_option (get s k)) (same_under s s' keys (All-tail (λ j. get s' j ≡ get s j) k keys same))

-- the questions that pass a test
pub filter_under : (p : Waiting → Bool) (s : Slab Waiting) (keys : List ℕ) → filter p (waiting_under s keys) ≡ waiting_under s (filter (λ j. passes p (get s j)) keys)
filter_under p s [] = refl
filter_under p s (k ∷ keys) = by (get s k) refl (filter_under p s keys)
  where
    inner : (a : Waiting) (b : Bool) → get s k ≡ Some a → filter p (waiting_under s keys) ≡ waiting_under s (filter (λ j. passes p (get s j)) keys)
        → cond b (a ∷ filter p (waiting_under s keys)) (filter p (waiting_under s keys)) ≡ waiting_under s (cond b (k ∷ filter (λ j. passes p (get s j)) keys) (filter (λ j. passes p (get s j)) keys))
    inner a true e rest = ap (λ xs. a ∷ xs) rest ∙ sym (ap (λ o. cons_option o (waiting_under s (filter (λ j. passes p (get s j)) keys))) e)
    inner a false e rest = rest

    by : (o : Option Waiting) → get s k ≡ o → filter p (waiting_under s keys) ≡ waiting_under s (filter (λ j. passes p (get s j)) keys)
        → filter p (cons_option o (waiting_under s keys)) ≡ waiting_under s (cond (passes p o) (k ∷ filter (λ j. passes p (get s j)) keys) (filter (λ j. passes p (get s j)) keys))
    by None e rest = rest
    by (Some a) e rest = inner a (p a) e rest

-- a further question, last
pub put_under : (s s' : Slab Waiting) (keys : List ℕ) (key : ℕ) (x : Waiting) → waiting_under s' keys ≡ waiting_under s keys → get s' key ≡ Some x → waiting_under s' (keys ++ key ∷ []) ≡ waiting_under s keys ++ x ∷ []
put_under s s' keys key x same e =
    filter_map-append (get s') keys (key ∷ []) ∙ ap (λ xs. xs ++ waiting_under s' (key ∷ [])) same ∙ ap (λ o. waiting_under s keys ++ cons_option o []) e

-- one question less
pub remove_under : (s : Slab Waiting) (keys : List ℕ) (i : ℕ) → ArePresent s keys → i < length keys → waiting_under s (remove keys i) ≡ remove (waiting_under s keys) i
remove_under s [] i present within = absurd (omega arith)
remove_under s (k ∷ keys) zero present within =
    let a = value_of (get s k) (All-head (λ j. IsSome (get s j)) k keys present) in
    sym (ap (λ o. remove (cons_option o (waiting_under s keys)) 0) a.1)
remove_under s (k ∷ keys) (suc i) present within =
    let a = value_of (get s k) (All-head (λ j. IsSome (get s j)) k keys present) in
    ap (λ o. cons_option o (waiting_under s (remove keys i))) a.1
    ∙ ap (λ xs. a.0 ∷ xs) (remove_under s keys i (All-tail (λ j. IsSome (get s j)) k keys present) (omega arith))
    ∙ sym (ap (λ o. remove (cons_option o (waiting_under s keys)) (suc i)) a.1)

-- ---- one more key

module _ (L : Waiting → Waiting → Type 0) (s s' : Slab Waiting) (keys : List ℕ) (are : AreKeys L s keys) (key : ℕ) (x : Waiting) (was : get s key ≡ None) (updates : Updates s s' key (Some x)) where
  pub not_among : All (λ j. j ≢ key) keys
  not_among = All-weaker (λ j. IsSome (get s j)) (λ j. j ≢ key) (λ j some same. false≢true (subst (λ o. IsSome o) (ap (get s) same ∙ was) some)) keys are.present

  pub stay : All (λ j. get s' j ≡ get s j) keys
  stay = All-weaker (λ j. j ≢ key) (λ j. get s' j ≡ get s j) (λ j other. updates.others j other) keys not_among

  same_new : (b : Waiting) → get s' key ≡ Some b → x ≡ b
  same_new b e = same_Some x b (sym updates.changed ∙ e)

  pub keys_put : (i : ℕ) → i ≤ length keys → All (λ j. (a : Waiting) → get s j ≡ Some a → L a x) (take i keys) → All (λ j. (a : Waiting) → get s j ≡ Some a → L x a) (drop i keys) → AreKeys L s' (insert keys i key)
  keys_put i within before later =
      let Present : ℕ → Type 0 = λ j. IsSome (get s' j) in
      let Kept : ℕ → Type 0 = λ j. get s' j ≡ get s j in
      let Ordered : ℕ → ℕ → Type 0 = λ j k. (a b : Waiting) → get s' j ≡ Some a → get s' k ≡ Some b → L a b in
      let old : AllPairs Ordered keys = λ j k d less high a b e f. are.in_order j k d less high a b (sym (stay j d (omega arith)) ∙ e) (sym (stay k d high) ∙ f) in
      let low : All (λ j. Ordered j key) (take i keys) =
      λ j d less a b e f. subst (λ y. L a y) (same_new b f) (before j d less a (sym (All-take Kept i keys stay j d less) ∙ e)) in
      let high : All (λ j. Ordered key j) (drop i keys) =
      λ j d less a b e f. subst (λ y. L y b) (same_new a e) (later j d less b (sym (All-drop Kept i keys stay j d less) ∙ f)) in
      record {
        present = all_insert Present keys i key (is_some_of (get s' key) x updates.changed) (λ j d less. subst (λ o. IsSome o) (sym (stay j d less)) (are.present j d less));
        apart = pairs_insert (λ j k. j ≢ k) keys i key within are.apart (All-take (λ j. j ≢ key) i keys not_among) (λ j d less same. All-drop (λ j. j ≢ key) i keys not_among j d less (sym same));
        in_order = pairs_insert Ordered keys i key within old low high;
      }

-- ---- one key less

module _ (L : Waiting → Waiting → Type 0) (s s' : Slab Waiting) (keys : List ℕ) (are : AreKeys L s keys) (key : ℕ) (updates : Updates s s' key None) where
  pub stay_others : All (λ j. get s' j ≡ get s j) (others key keys)
  stay_others = All-weaker (λ j. not (j == key) ≡ true) (λ j. get s' j ≡ get s j) (λ j passed. updates.others j (others_differ j key passed)) (others key keys) (filter_passes (λ j. not (j == key)) keys)

  pub keys_left : AreKeys L s' (others key keys)
  keys_left =
      let Ordered : ℕ → ℕ → Type 0 = λ j k. (a b : Waiting) → get s j ≡ Some a → get s k ≡ Some b → L a b in
      let present = All-filter (λ j. not (j == key)) (λ j. IsSome (get s j)) keys are.present in
      let ordered : AllPairs Ordered (others key keys) = AllPairs-filter Ordered (λ j. not (j == key)) keys are.in_order in
      record {
        present = λ j d less. subst (λ o. IsSome o) (sym (stay_others j d less)) (present j d less);
        apart = AllPairs-filter (λ j k. j ≢ k) (λ j. not (j == key)) keys are.apart;
        in_order = λ j k d less high a b e f. ordered j k d less high a b (sym (stay_others j d (omega arith)) ∙ e) (sym (stay_others k d high) ∙ f);
      }

-- ---- none

pub no_keys : (L : Waiting → Waiting → Type 0) (s : Slab Waiting) → AreKeys L s []
no_keys L s = record {
  present = λ k d less. absurd (omega arith);
  apart = λ i j d less high. absurd (omega arith);
  in_order = λ i j d less high. absurd (omega arith);
}

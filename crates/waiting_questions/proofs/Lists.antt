-- Lists: filters, and pairs of elements, with one element more or less.
use Rattle.std.proofs.Common.{◌≡◌, ◌≢◌, ℕ, zero, suc, ◌+◌, ◌<◌, ◌≤◌, ◌==◌, List, [], ◌∷◌, ◌++◌, length, take, drop, slice_index, slice_index_or, Bool, true, false, cond, ◌||◌, not, nat_lt, refl, sym, ap, ◌∙◌, arith, append-nil, length-take, length-drop, get_or-take, get_or-drop, lt-ltb, slice_get, Some}
use Rattle.std.specs.Prelude.{filter}
use Rattle.std.specs.List.{All, AllPairs, Contains, insert, remove, remove_range, between, list_any}
use Rattle.std.proofs.Math.ListN.{get_or-append}
use Rattle.std.proofs.lemmas.Bool.{cond-true, cond-false, eq-eqb, false_from_ne_true, eqb-true, false≢true}
use Rattle.std.proofs.lemmas.Option.{same_Some}
use Rattle.std.proofs.lemmas.List.Edits.{split_between, get_or-between, length-between, remove-append_left}
use Rattle.std.proofs.lemmas.List.Elements.{All-head, All-tail, All-cons, All-append, All-take, All-drop, All-filter, All-contains, All-contains_itself, All-from_get_or, filter-append}
use Rattle.std.proofs.lemmas.List.Kept.{AllPairs-cons}

module _ {X : Type 0} where
  -- ---- pairs

  pub pairs_head : (R : X → X → Type 0) (x : X) (xs : List X) → AllPairs R (x ∷ xs) → All (R x) xs
  pairs_head R x xs all k d within = all 0 (suc k) d (omega arith) (omega arith)

  pub pairs_tail : (R : X → X → Type 0) (x : X) (xs : List X) → AllPairs R (x ∷ xs) → AllPairs R xs
  pairs_tail R x xs all i j d less within = all (suc i) (suc j) d (omega arith) (omega arith)

  -- an element, put between its predecessors and its successors
  pub pairs_insert : (R : X → X → Type 0) (xs : List X) (i : ℕ) (y : X) → i ≤ length xs → AllPairs R xs → All (λ x. R x y) (take i xs) → All (R y) (drop i xs) → AllPairs R (insert xs i y)
  pairs_insert R xs zero y within all before later = AllPairs-cons R y xs later all
  pairs_insert R [] (suc i) y within all before later = absurd (omega arith)
  pairs_insert R (x ∷ xs) (suc i) y within all before later =
      let here = pairs_head R x xs all in
      AllPairs-cons R x (insert xs i y)
      (All-append (R x) (take i xs) (y ∷ drop i xs) (All-take (R x) i xs here) (All-cons (R x) y (drop i xs) (All-head (λ z. R z y) x (take i xs) before) (All-drop (R x) i xs here)))
      (pairs_insert R xs i y (omega arith) (pairs_tail R x xs all) (All-tail (λ z. R z y) x (take i xs) before) later)

  pub all_insert : (P : X → Type 0) (xs : List X) (i : ℕ) (y : X) → P y → All P xs → All P (insert xs i y)
  all_insert P xs i y new all = All-append P (take i xs) (y ∷ drop i xs) (All-take P i xs all) (All-cons P y (drop i xs) new (All-drop P i xs all))

  -- ---- filters

  pub filter_all : (p : X → Bool) (xs : List X) → All (λ x. p x ≡ true) xs → filter p xs ≡ xs
  filter_all p [] all = refl
  filter_all p (x ∷ xs) all =
      cond-true (p x) (x ∷ filter p xs) (filter p xs) (All-head (λ y. p y ≡ true) x xs all)
      ∙ ap (λ ys. x ∷ ys) (filter_all p xs (All-tail (λ y. p y ≡ true) x xs all))

  pub filter_none : (p : X → Bool) (xs : List X) → All (λ x. p x ≡ false) xs → filter p xs ≡ []
  filter_none p [] all = refl
  filter_none p (x ∷ xs) all =
      cond-false (p x) (x ∷ filter p xs) (filter p xs) (All-head (λ y. p y ≡ false) x xs all)
      ∙ filter_none p xs (All-tail (λ y. p y ≡ false) x xs all)

  -- tests that agree on the elements
  pub filter_alike : (p q : X → Bool) (xs : List X) → All (λ x. p x ≡ q x) xs → filter p xs ≡ filter q xs
  filter_alike p q [] all = refl
  filter_alike p q (x ∷ xs) all =
      ap (λ b. cond b (x ∷ filter p xs) (filter p xs)) (All-head (λ y. p y ≡ q y) x xs all)
      ∙ ap (λ ys. cond (q x) (x ∷ ys) ys) (filter_alike p q xs (All-tail (λ y. p y ≡ q y) x xs all))

  pub filter_filter : (p q : X → Bool) (xs : List X) → filter p (filter q xs) ≡ filter q (filter p xs)
  filter_filter p q [] = refl
  filter_filter p q (x ∷ xs) = by (p x) (q x) refl refl (filter_filter p q xs)
    where
      by : (b c : Bool) → p x ≡ b → q x ≡ c → filter p (filter q xs) ≡ filter q (filter p xs)
          → filter p (cond c (x ∷ filter q xs) (filter q xs)) ≡ filter q (cond b (x ∷ filter p xs) (filter p xs))
      by true true e f rest =
          cond-true (p x) (x ∷ filter p (filter q xs)) (filter p (filter q xs)) e ∙ ap (λ ys. x ∷ ys) rest
          ∙ sym (cond-true (q x) (x ∷ filter q (filter p xs)) (filter q (filter p xs)) f)
      by true false e f rest = rest ∙ sym (cond-false (q x) (x ∷ filter q (filter p xs)) (filter q (filter p xs)) f)
      by false true e f rest = cond-false (p x) (x ∷ filter p (filter q xs)) (filter p (filter q xs)) e ∙ rest
      by false false e f rest = rest

  -- one more element, after all passing elements if the element passes
  pub filter_insert : (p : X → Bool) (xs : List X) (i : ℕ) (y : X) → i ≤ length xs → (p y ≡ true → All (λ x. p x ≡ false) (drop i xs)) → filter p (insert xs i y) ≡ filter p xs ++ filter p (y ∷ [])
  filter_insert p xs zero y within none = by (p y) refl
    where
      by : (b : Bool) → p y ≡ b → cond b (y ∷ filter p xs) (filter p xs) ≡ filter p xs ++ cond b (y ∷ []) []
      by true e = let empty = filter_none p xs (none e) in ap (λ ys. y ∷ ys) empty ∙ sym (ap (λ ys. ys ++ y ∷ []) empty)
      by false e = sym (append-nil (filter p xs))
  filter_insert p [] (suc i) y within none = absurd (omega arith)
  filter_insert p (x ∷ xs) (suc i) y within none = by (p x) (filter_insert p xs i y (omega arith) none)
    where
      by : (b : Bool) → filter p (insert xs i y) ≡ filter p xs ++ filter p (y ∷ []) → cond b (x ∷ filter p (insert xs i y)) (filter p (insert xs i y)) ≡ cond b (x ∷ filter p xs) (filter p xs) ++ filter p (y ∷ [])
      by true rest = ap (λ ys. x ∷ ys) rest
      by false rest = rest

  -- the passing elements are from place i up to place j
  pub filter_between : (p : X → Bool) (xs : List X) (i j : ℕ) (d : X) → i ≤ j → j ≤ length xs → ((k : ℕ) → k < i → p (slice_index_or xs k d) ≡ false) → ((k : ℕ) → i ≤ k → k < j → p (slice_index_or xs k d) ≡ true)
      → ((k : ℕ) → j ≤ k → k < length xs → p (slice_index_or xs k d) ≡ false) → filter p xs ≡ between i j xs
  filter_between p xs i j d low high before among later =
      let front : filter p (take i xs) ≡ [] =
      filter_none p (take i xs) (All-from_get_or (λ x. p x ≡ false) (take i xs) d (λ k within. let less : k < i = omega (arith, length-take i xs) in ap p (get_or-take i xs k d less) ∙ before k less)) in
      let middle : filter p (between i j xs) ≡ between i j xs =
      filter_all p (between i j xs) (All-from_get_or (λ x. p x ≡ true) (between i j xs) d (λ k within. let less : i + k < j = omega (arith, length-between xs i j high) in ap p (get_or-between xs i j k d less) ∙ among (i + k) (omega arith) less)) in
      let back : filter p (drop j xs) ≡ [] =
      filter_none p (drop j xs) (All-from_get_or (λ x. p x ≡ false) (drop j xs) d (λ k within. ap p (get_or-drop j xs k d) ∙ later (j + k) (omega arith) (omega (arith, length-drop j xs)))) in
      ap (filter p) (split_between xs i j low)
      ∙ filter-append p (take i xs) (between i j xs ++ drop j xs)
      ∙ ap (λ ys. ys ++ filter p (between i j xs ++ drop j xs)) front
      ∙ filter-append p (between i j xs) (drop j xs)
      ∙ ap (λ ys. filter p (between i j xs) ++ ys) back
      ∙ append-nil (filter p (between i j xs))
      ∙ middle

  -- whether any element passes, by the number that pass
  pub any_counts : (p : X → Bool) (xs : List X) → list_any p xs ≡ nat_lt 0 (length (filter p xs))
  any_counts p [] = refl
  any_counts p (x ∷ xs) = by (p x) (any_counts p xs)
    where
      by : (b : Bool) → list_any p xs ≡ nat_lt 0 (length (filter p xs)) → (b || list_any p xs) ≡ nat_lt 0 (length (cond b (x ∷ filter p xs) (filter p xs)))
      by true rest = sym (lt-ltb 0 (suc (length (filter p xs))) (omega arith))
      by false rest = rest

  -- if no element passes, the failing elements are all
  pub filter_fails : (p : X → Bool) (xs : List X) → filter p xs ≡ [] → filter (λ x. not (p x)) xs ≡ xs
  filter_fails p [] none = refl
  filter_fails p (x ∷ xs) none = by (p x) refl none (filter_fails p xs)
    where
      by : (b : Bool) → p x ≡ b → cond b (x ∷ filter p xs) (filter p xs) ≡ [] → (filter p xs ≡ [] → filter (λ y. not (p y)) xs ≡ xs) → cond (not b) (x ∷ filter (λ y. not (p y)) xs) (filter (λ y. not (p y)) xs) ≡ x ∷ xs
      by true e some rest = let long : suc (length (filter p xs)) ≡ 0 = ap length some in absurd (omega (arith, long))
      by false e some rest = ap (λ ys. x ∷ ys) (rest some)

  -- a failing element is left out
  pub filter_remove : (p : X → Bool) (xs : List X) (i : ℕ) (x : X) → i < length xs → slice_get xs i ≡ Some x → p x ≡ false → filter p (remove xs i) ≡ filter p xs
  filter_remove p [] i x within is fails = absurd (omega arith)
  filter_remove p (y ∷ xs) zero x within is fails = sym (cond-false (p y) (y ∷ filter p xs) (filter p xs) (ap p (same_Some y x is) ∙ fails))
  filter_remove p (y ∷ xs) (suc i) x within is fails = ap (λ ys. cond (p y) (y ∷ ys) ys) (filter_remove p xs i x (omega arith) is fails)

  -- a passing element is among the passing elements
  passed : (p : X → Bool) (xs : List X) (i : ℕ) (x : X) → i < length xs → slice_index_or xs i x ≡ x → p x ≡ true → Contains (filter p xs) x
  passed p [] i x within is passes = absurd (omega arith)
  passed p (y ∷ xs) zero x within is passes = by (p y) (ap p is ∙ passes)
    where
      by : (b : Bool) → b ≡ true → Contains (cond b (y ∷ filter p xs) (filter p xs)) x
      by true e = (0, omega arith, is)
      by false e = absurd (false≢true e)
  passed p (y ∷ xs) (suc i) x within is passes = by (p y) (passed p xs i x (omega arith) is passes)
    where
      by : (b : Bool) → Contains (filter p xs) x → Contains (cond b (y ∷ filter p xs) (filter p xs)) x
      by true rest = (suc rest.0, omega (arith, rest.1), rest.2)
      by false rest = rest

  pub in_filter : (p : X → Bool) (xs : List X) (x : X) → Contains xs x → p x ≡ true → Contains (filter p xs) x
  in_filter p xs x c passes = passed p xs c.0 x c.1 c.2 passes

  pub from_filter : (p : X → Bool) (xs : List X) (x : X) → Contains (filter p xs) x → Contains xs x
  from_filter p xs x = All-contains (Contains xs) (filter p xs) x (All-filter p (Contains xs) xs (All-contains_itself xs))

  -- ---- without a range

  -- the front without its last element
  front_left : (xs : List X) (p : ℕ) → p < length xs → remove (take (suc p) xs) p ≡ take p xs
  front_left [] p within = absurd (omega arith)
  front_left (x ∷ xs) zero within = refl
  front_left (x ∷ xs) (suc p) within = ap (λ ys. x ∷ ys) (front_left xs p (omega arith))

  -- the range begins a place earlier
  pub range_grows : (xs : List X) (p j : ℕ) → p < length xs → remove (remove_range xs (suc p) j) p ≡ remove_range xs p j
  range_grows xs p j within =
      remove-append_left (take (suc p) xs) (drop j xs) p (omega (arith, length-take (suc p) xs))
      ∙ ap (λ ys. ys ++ drop j xs) (front_left xs p within)

  -- the items before the range stay
  pub before_range : (xs : List X) (i j k : ℕ) (d : X) → k < i → i ≤ length xs → slice_index_or (remove_range xs i j) k d ≡ slice_index_or xs k d
  before_range xs i j k d less within = get_or-append (take i xs) (drop j xs) d k (omega (arith, length-take i xs)) ∙ get_or-take i xs k d less

-- ---- keys

-- all keys but one
abbrev pub others : ℕ → List ℕ → List ℕ
others key keys = filter (λ k. not (k == key)) keys

differs : (k key : ℕ) → k ≢ key → not (k == key) ≡ true
differs k key other = ap not (false_from_ne_true (k == key) (λ same. other (eqb-true k key same)))

pub others_differ : (k key : ℕ) → not (k == key) ≡ true → k ≢ key
others_differ k key passes same = false≢true (ap not (sym (eq-eqb k key same)) ∙ passes)

-- without the key at a place
pub removed : (keys : List ℕ) (i key : ℕ) → i < length keys → slice_index keys i ≡ key → AllPairs (λ j k. j ≢ k) keys → remove keys i ≡ others key keys
removed [] i key within is apart = absurd (omega arith)
removed (k ∷ keys) zero key within is apart =
    let rest : filter (λ j. not (j == key)) keys ≡ keys = filter_all (λ j. not (j == key)) keys (λ j d less. differs _ key (λ same. pairs_head (λ a b. a ≢ b) k keys apart j d less (is ∙ sym same))) in
    sym (cond-false (not (k == key)) (k ∷ others key keys) (others key keys) (ap not (eq-eqb k key is)) ∙ rest)
removed (k ∷ keys) (suc i) key within is apart =
    let other : k ≢ key = λ same. pairs_head (λ a b. a ≢ b) k keys apart i 0 (omega arith) (same ∙ sym is) in
    ap (λ ks. k ∷ ks) (removed keys i key (omega arith) is (pairs_tail (λ a b. a ≢ b) k keys apart))
    ∙ sym (cond-true (not (k == key)) (k ∷ others key keys) (others key keys) (differs k key other))

-- The result of a search of asks' keys.
use Rattle.std.proofs.Common.{◌≡◌, ◌⊎◌, ℕ, ◌<◌, ◌≤◌, List, length, map, get_or, Option, Some, None, IsSome, Result, Ok, Err, IfOk, IfErr, nat_cmp, Ordering, Less, Equal, Greater, refl, sym, ap, ap₂, ◌∙◌, subst, subst₂, inl, inr, arith}
use Rattle.std.specs.Prelude.{slice_index}
use Rattle.std.specs.List.{All}
use Rattle.std.specs.Ordering.{ordering_index, ordering_then}
use Rattle.std.specs.Cmp.{IsTotalOrder}
use Rattle.std.specs.List.Sorted.{IsSearchInRange, IsBinarySearchResult, IsNonDecreasingBy}
use Rattle.std.proofs.lemmas.Bool.{cases_lt, cases_order, false≢true}
use Rattle.std.proofs.lemmas.Cmp.{tied_back, alike_right}
use Rattle.std.proofs.lemmas.List.{length-map, get_or-map}
use Rattle.std.proofs.lemmas.List.Sorted.{IsNonDecreasingBy-from_default}
use Rattle.slab.specs.Slab.{Slab, get}
use Rattle.outstanding.specs.declared.numbered.NumberedKey.{NumberedKey}
use Rattle.outstanding.specs.Values.{Ask}
use Rattle.outstanding.specs.Tables.{Covers, Rises, compared, IsAt, IsGap, keys_of, AreNumbered, compared_by_number}

-- the value of an option with a value
pub value_of : {X : Type 0} (o : Option X) → IsSome o → (x : X) × (o ≡ Some x)
value_of None some = absurd (false≢true some)
value_of (Some x) some = (x, refl)

pub is_some_of : {X : Type 0} (o : Option X) (x : X) → o ≡ Some x → IsSome o
is_some_of o x e = subst (λ o. IsSome o) (sym e) refl

index_le : (o : Ordering) → ordering_index o ≤ 2
index_le Less = omega arith
index_le Equal = omega arith
index_le Greater = omega arith

-- the lower of two compares no higher with a third
index_rises : {K : Type 0} {R : K → K → Ordering} → IsTotalOrder R → (x y z : K) → R x y ≡ Less → ordering_index (R x z) ≤ ordering_index (R y z)
index_rises {K} {R} total x y z less = by (R y z) refl
  where
    by : (o : Ordering) → R y z ≡ o → ordering_index (R x z) ≤ ordering_index o
    by Less e = rw (total.trans x y z less e) (omega arith)
    by Equal e = rw (sym (alike_right total y z x e) ∙ less) (omega arith)
    by Greater e = index_le (R x z)

module _ {K : Type 0} (R : K → K → Ordering) (total : IsTotalOrder R) (read : Ask → K) (s : Slab Ask) (keys : List ℕ) (covers : Covers s keys) (rises : Rises R read s keys) (x : K) where
  abbrev pub to : Ask → Ordering
  to a = R (read a) x

  comparisons_rise : IsNonDecreasingBy (λ key. ordering_index (compared to (get s key))) keys
  comparisons_rise = IsNonDecreasingBy-from_default (λ key. ordering_index (compared to (get s key))) keys 0 (λ i j le within. by i j le within (cases_lt i j))
    where
      by : (i j : ℕ) → i ≤ j → j < length keys → (i < j) ⊎ (j ≤ i) → ordering_index (compared to (get s (slice_index keys i))) ≤ ordering_index (compared to (get s (slice_index keys j)))
      by i j le within (inl less) =
          let a = value_of (get s (slice_index keys i)) (covers.present i (omega arith)) in
          let b = value_of (get s (slice_index keys j)) (covers.present j within) in
          rw (a.1, b.1) (index_rises total (read a.0) (read b.0) x (rises i j a.0 b.0 less within a.1 b.1))
      by i j le within (inr more) =
          let same : i ≡ j = omega arith in
          rw same (omega arith)

  -- a binary search ends at the sought ask, or at its place in the order
  pub searched : (r : Result ℕ ℕ) → IsSearchInRange r (length keys) → IsBinarySearchResult (λ key. compared to (get s key)) keys r → IfOk r (IsAt to s keys) × IfErr r (IsGap to s keys)
  searched (Ok i) in_range equal = (
    record { in_range = in_range; equal = λ a e. ap (compared to) (sym e) ∙ equal 0 },
    tt,
  )
  searched (Err i) in_range parted = (
    tt,
    record {
      in_range = in_range;
      before = λ j a lt e. ap (compared to) (sym e) ∙ (parted comparisons_rise).0 j 0 (omega arith) lt;
      later = λ j a le lt e. ap (compared to) (sym e) ∙ (parted comparisons_rise).1 j 0 le lt;
    },
  )

  two_equal : (a b : Ask) → to a ≡ Equal → to b ≡ Equal → R (read a) (read b) ≡ Less → ⊥
  two_equal a b here there less =
      let same : R (read a) (read b) ≡ R x (read b) = total.congr (read a) x (read b) here in
      let back : R x (read b) ≡ Equal = tied_back total (read b) x there in
      cc

  -- only a single ask compares equal
  pub one_at : (i : ℕ) → IsAt to s keys i → (key : ℕ) (b : Ask) → get s key ≡ Some b → to b ≡ Equal → key ≡ slice_index keys i
  one_at i found key b e equal =
      let v = covers.complete key (is_some_of _ b e) in
      let a = value_of (get s (slice_index keys i)) (covers.present i found.in_range) in
      let there : get s (slice_index keys v.0) ≡ Some b = ap (get s) v.2 ∙ e in
      elim (cases_order v.0 i) [
        | inl same ↦ sym v.2 ∙ ap (slice_index keys) same
        | inr (inl less) ↦ absurd (two_equal b a.0 equal (found.equal a.0 a.1) (rises v.0 i b a.0 less found.in_range there a.1))
        | inr (inr more) ↦ absurd (two_equal a.0 b (found.equal a.0 a.1) equal (rises i v.0 a.0 b more v.1 a.1 there))
      ]

-- no ask compares equal
pub none_at : (f : Ask → Ordering) (s : Slab Ask) (keys : List ℕ) → Covers s keys → (i : ℕ) → IsGap f s keys i → (key : ℕ) (b : Ask) → get s key ≡ Some b → f b ≡ Equal → ⊥
none_at f s keys covers i gap key b e equal =
    let v = covers.complete key (is_some_of _ b e) in
    let there : get s (slice_index keys v.0) ≡ Some b = ap (get s) v.2 ∙ e in
    elim (cases_lt v.0 i) [
      | inl less ↦ let low : f b ≡ Less = gap.before v.0 b less there in cc
      | inr more ↦ let high : f b ≡ Greater = gap.later v.0 b more v.1 there in cc
    ]

-- ---- by number

-- a search of mapped elements goes as a search of the elements, if the comparisons agree
module _ {X Y : Type 0} (f : X → Y) (to : X → Ordering) (to' : Y → Ordering) (xs : List X) (d : X) (same : All (λ x. to x ≡ to' (f x)) xs) where
  each : (i : ℕ) (c : X) (e : Y) → i < length xs → to' (get_or (map f xs) i e) ≡ to (get_or xs i c)
  each i c e within = ap to' (get_or-map f xs i c e within) ∙ sym (same i c within)

  searched_same : (r : Result ℕ ℕ) → IsSearchInRange r (length xs) → IsBinarySearchResult to xs r → IsBinarySearchResult to' (map f xs) r
  searched_same (Ok i) in_range equal = λ e. each i d e in_range ∙ equal d
  searched_same (Err i) in_range parted = λ rise.
      let parts = parted (λ j k c le within. subst₂ (λ (a b : Ordering). ordering_index a ≤ ordering_index b) (each j c (f c) (omega arith)) (each k c (f c) within) (rise j k (f c) le (omega (arith, length-map xs f)))) in (
        λ j e low high. each j d e (omega arith) ∙ parts.0 j d low high,
        λ j e low high. each j d e (omega (arith, length-map xs f)) ∙ parts.1 j d low (omega (arith, length-map xs f)),
      )

-- if different numbers decide the order, a search that compares numbers first ends at the sought
-- ask, or at its place in the order
module _ {K : Type 0} (R : K → K → Ordering) (total : IsTotalOrder R) (read : Ask → K) (number : K → ℕ) (tell : (y z : K) → ordering_then (nat_cmp (number y) (number z)) (R y z) ≡ R y z)
    (s : Slab Ask) (keys : List NumberedKey) (covers : Covers s (keys_of keys)) (rises : Rises R read s (keys_of keys)) (numbered : AreNumbered (λ a. number (read a)) s keys) (x : K) (n : ℕ) (is : n ≡ number x) where
  compared_same : All (λ k. compared_by_number n (λ a. R (read a) x) s k ≡ compared (λ a. R (read a) x) (get s k.key)) keys
  compared_same i d within =
      let k : NumberedKey = get_or keys i d in
      let a = value_of (get s k.key) (subst (λ (j : ℕ). IsSome (get s j)) (get_or-map (λ k. k.key) keys i d 0 within) (covers.present i (omega (arith, length-map keys (λ (k : NumberedKey). k.key))))) in
      ap₂ (λ (m : ℕ) (o : Option Ask). ordering_then (nat_cmp m n) (compared (λ b. R (read b) x) o)) (numbered i d within a.0 a.1) a.1
      ∙ ap (λ (m : ℕ). ordering_then (nat_cmp (number (read a.0)) m) (R (read a.0) x)) is
      ∙ tell (read a.0) x
      ∙ sym (ap (compared (λ b. R (read b) x)) a.1)

  pub searched_by_number : (r : Result ℕ ℕ) → IsSearchInRange r (length keys) → IsBinarySearchResult (compared_by_number n (λ a. R (read a) x) s) keys r
      → IfOk r (IsAt (λ a. R (read a) x) s (keys_of keys)) × IfErr r (IsGap (λ a. R (read a) x) s (keys_of keys))
  searched_by_number r in_range result =
      searched R total read s (keys_of keys) covers rises x r (subst (IsSearchInRange r) (sym (length-map keys (λ (k : NumberedKey). k.key))) in_range)
      (searched_same (λ k. k.key) (compared_by_number n (λ a. R (read a) x) s) (λ key. compared (λ a. R (read a) x) (get s key)) keys (record { number = 0; key = 0 }) compared_same r in_range result)

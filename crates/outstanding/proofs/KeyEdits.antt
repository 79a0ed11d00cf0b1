-- One key more, or one less.
use Rattle.std.proofs.Common.{◌≡◌, ◌≢◌, ◌⊎◌, ℕ, ◌+◌, ◌-◌, ◌<◌, ◌≤◌, List, [], length, Option, Some, None, IsSome, Ordering, Less, refl, sym, ap, ◌∙◌, subst, inl, inr, arith}
use Rattle.std.specs.Prelude.{slice_index}
use Rattle.std.specs.List.{insert, remove}
use Rattle.std.specs.Ordering.{ordering_reverse}
use Rattle.std.specs.Cmp.{IsTotalOrder}
use Rattle.std.proofs.lemmas.Bool.{cases_lt, cases_eq, cases_order, false≢true}
use Rattle.std.proofs.lemmas.Option.{same_Some}
use Rattle.std.proofs.lemmas.List.Edits.{length-insert, get_or-insert_below, get_or-insert_at, get_or-insert_above, length-remove, get_or-remove_below, get_or-remove_above}
use Rattle.slab.specs.Slab.{Slab, get, Updates}
use Rattle.outstanding.specs.Values.{Ask}
use Rattle.outstanding.specs.Tables.{Covers, Rises, IsGap}

-- the place of a key before another key was put or removed at place i
record Stood (old new : List ℕ) (i : ℕ) : Type 0 where
  pub place : ℕ
  pub within : place < length old
  pub same : slice_index new i ≡ slice_index old place

-- places keep their order
put_in_order : (at i j p q : ℕ) → i < j → i ≢ at → j ≢ at → (i < at → p ≡ i) → (at < i → p + 1 ≡ i) → (j < at → q ≡ j) → (at < j → q + 1 ≡ j) → p < q
put_in_order at i j p q less here there low high low' high' = elim (cases_lt i at) [
  | inl a ↦ elim (cases_lt j at) [
    | inl b ↦ omega (arith, low a, low' b)
    | inr b ↦ omega (arith, low a, high' (omega (arith, there)))
  ]
  | inr a ↦ omega (arith, high (omega (arith, here)), high' (omega (arith, here)))
]

left_in_order : (at i j p q : ℕ) → i < j → (i < at → p ≡ i) → (at ≤ i → p ≡ i + 1) → (j < at → q ≡ j) → (at ≤ j → q ≡ j + 1) → p < q
left_in_order at i j p q less low high low' high' = elim (cases_lt i at) [
  | inl a ↦ elim (cases_lt j at) [
    | inl b ↦ omega (arith, low a, low' b)
    | inr b ↦ omega (arith, low a, high' b)
  ]
  | inr a ↦ omega (arith, high a, high' (omega arith))
]

-- ---- one more key

module _ (keys : List ℕ) (at key : ℕ) (in_range : at ≤ length keys) where
  abbrev pub more : List ℕ
  more = insert keys at key

  stood : (i : ℕ) → i < length more → i ≢ at → (s : Stood keys more i) × (i < at → s.place ≡ i) × (at < i → s.place + 1 ≡ i)
  stood i within other = by (cases_lt i at)
    where
      by : (i < at) ⊎ (at ≤ i) → (s : Stood keys more i) × (i < at → s.place ≡ i) × (at < i → s.place + 1 ≡ i)
      by (inl less) = (
        record { place = i; within = omega arith; same = get_or-insert_below keys at key 0 i less in_range },
        λ l. refl,
        λ m. absurd (omega arith),
      )
      by (inr some) =
          let le : at ≤ i - 1 = omega (arith, other) in
          let on : i - 1 + 1 ≡ i = omega (arith, other) in (
            record {
              place = i - 1;
              within = omega (arith, length-insert keys at key in_range, on);
              same = ap (slice_index more) (sym on) ∙ get_or-insert_above keys at key 0 (i - 1) le in_range;
            },
            λ l. absurd (omega arith),
            λ m. on,
          )

  here : slice_index more at ≡ key
  here = get_or-insert_at keys at key 0 in_range

  module _ (s s' : Slab Ask) (slot : Option Ask) (covers : Covers s keys) (was : get s key ≡ None) (updates : Updates s s' key slot) where
    pub not_among : (i : ℕ) → i < length keys → slice_index keys i ≢ key
    not_among i within same = false≢true (subst (λ o. IsSome o) (ap (get s) same ∙ was) (covers.present i within))

    pub same_value : (i : ℕ) → i < length keys → get s' (slice_index keys i) ≡ get s (slice_index keys i)
    same_value i within = updates.others (slice_index keys i) (not_among i within)

    present : IsSome slot → (i : ℕ) → i < length more → IsSome (get s' (slice_index more i))
    present some i within = elim (cases_eq i at) [
      | inl at_it ↦ subst (λ o. IsSome o) (sym (ap (λ j. get s' (slice_index more j)) at_it ∙ ap (get s') here ∙ updates.changed)) some
      | inr other ↦
          let p = stood i within other in
          subst (λ o. IsSome o) (sym (ap (get s') p.0.same ∙ same_value p.0.place p.0.within)) (covers.present p.0.place p.0.within)
    ]

    complete : (k : ℕ) → IsSome (get s' k) → (i : ℕ) × (i < length more) × (slice_index more i ≡ k)
    complete k some = elim (cases_eq k key) [
      | inl same ↦ (at, omega (arith, length-insert keys at key in_range), here ∙ sym same)
      | inr other ↦
          let v = covers.complete k (subst (λ o. IsSome o) (updates.others k other) some) in
          elim (cases_lt v.0 at) [
            | inl less ↦ (v.0, omega (arith, length-insert keys at key in_range, v.1), get_or-insert_below keys at key 0 v.0 less in_range ∙ v.2)
            | inr le ↦ (v.0 + 1, omega (arith, length-insert keys at key in_range, v.1), get_or-insert_above keys at key 0 v.0 le in_range ∙ v.2)
          ]
    ]

    apart : (i j : ℕ) → i < j → j < length more → slice_index more i ≢ slice_index more j
    apart i j less within same = elim (cases_eq i at) [
      | inl at_it ↦
          let q = stood j within (omega arith) in
          not_among q.0.place q.0.within (sym q.0.same ∙ sym same ∙ ap (slice_index more) at_it ∙ here)
      | inr other ↦
          let p = stood i (omega arith) other in
          elim (cases_eq j at) [
            | inl at_it ↦ not_among p.0.place p.0.within (sym p.0.same ∙ same ∙ ap (slice_index more) at_it ∙ here)
            | inr others ↦
                let q = stood j within others in
                covers.apart p.0.place q.0.place (put_in_order at i j p.0.place q.0.place less other others p.1 p.2 q.1 q.2) q.0.within (sym p.0.same ∙ same ∙ q.0.same)
          ]
    ]

    pub covers_put : IsSome slot → Covers s' more
    covers_put some = record { present = present some; complete = complete; apart = apart }

-- asks stay in order if the key is put at the ask's place in the order
module _ {K : Type 0} (R : K → K → Ordering) (total : IsTotalOrder R) (read : Ask → K) (s s' : Slab Ask) (keys : List ℕ) (at key : ℕ) (a : Ask) (covers : Covers s keys) (rises : Rises R read s keys)
    (was : get s key ≡ None) (updates : Updates s s' key (Some a)) (gap : IsGap (λ b. R (read b) (read a)) s keys at) where
  new_ask : (b : Ask) → get s' (slice_index (insert keys at key) at) ≡ Some b → a ≡ b
  new_ask b e = same_Some a b (sym (ap (get s') (here keys at key gap.in_range) ∙ updates.changed) ∙ e)

  old_ask : (i : ℕ) (b : Ask) → (p : Stood keys (insert keys at key) i) → get s' (slice_index (insert keys at key) i) ≡ Some b → get s (slice_index keys p.place) ≡ Some b
  old_ask i b p e = sym (same_value keys at key gap.in_range s s' (Some a) covers was updates p.place p.within) ∙ ap (get s') (sym p.same) ∙ e

  later : (i : ℕ) (c : Ask) → at ≤ i → i < length keys → get s (slice_index keys i) ≡ Some c → R (read a) (read c) ≡ Less
  later i c le within e = total.antisymm (read a) (read c) ∙ ap ordering_reverse (gap.later i c le within e)

  pub rises_put : Rises R read s' (insert keys at key)
  rises_put i j b c less within e f = elim (cases_eq i at) [
    | inl at_it ↦
        let q = stood keys at key gap.in_range j within (omega arith) in
        let same : a ≡ b = new_ask b (ap (λ k. get s' (slice_index (insert keys at key) k)) (sym at_it) ∙ e) in
        subst (λ x. R (read x) (read c) ≡ Less) same (later q.0.place c (omega (arith, q.2 (omega arith))) q.0.within (old_ask j c q.0 f))
    | inr other ↦
        let p = stood keys at key gap.in_range i (omega arith) other in
        elim (cases_eq j at) [
          | inl at_it ↦
              let same : a ≡ c = new_ask c (ap (λ k. get s' (slice_index (insert keys at key) k)) (sym at_it) ∙ f) in
              subst (λ x. R (read b) (read x) ≡ Less) same (gap.before p.0.place b (omega (arith, p.1 (omega arith))) (old_ask i b p.0 e))
          | inr others ↦
              let q = stood keys at key gap.in_range j within others in
              rises p.0.place q.0.place b c (put_in_order at i j p.0.place q.0.place less other others p.1 p.2 q.1 q.2) q.0.within (old_ask i b p.0 e) (old_ask j c q.0 f)
        ]
  ]

-- ---- one key less

module _ (keys : List ℕ) (at key : ℕ) (in_range : at < length keys) (is : slice_index keys at ≡ key) where
  abbrev pub less : List ℕ
  less = remove keys at

  left : (i : ℕ) → i < length less → (s : Stood keys less i) × (i < at → s.place ≡ i) × (at ≤ i → s.place ≡ i + 1)
  left i within = by (cases_lt i at)
    where
      by : (i < at) ⊎ (at ≤ i) → (s : Stood keys less i) × (i < at → s.place ≡ i) × (at ≤ i → s.place ≡ i + 1)
      by (inl lt) = (
        record { place = i; within = omega arith; same = get_or-remove_below keys at 0 i lt in_range },
        λ l. refl,
        λ m. absurd (omega arith),
      )
      by (inr le) = (
        record { place = i + 1; within = omega (arith, length-remove keys at in_range); same = get_or-remove_above keys at 0 i le in_range },
        λ l. absurd (omega arith),
        λ m. refl,
      )

  module _ (s s' : Slab Ask) (covers : Covers s keys) (updates : Updates s s' key None) where
    pub left_over : (i : ℕ) → i < length less → slice_index less i ≢ key
    left_over i within same =
        let p = left i within in
        elim (cases_lt i at) [
          | inl lt ↦ covers.apart p.0.place at (omega (arith, p.1 lt)) in_range (sym p.0.same ∙ same ∙ sym is)
          | inr le ↦ covers.apart at p.0.place (omega (arith, p.2 le)) p.0.within (is ∙ sym same ∙ p.0.same)
        ]

    pub same_left : (i : ℕ) → i < length less → get s' (slice_index less i) ≡ get s (slice_index less i)
    same_left i within = updates.others (slice_index less i) (left_over i within)

    present_left : (i : ℕ) → i < length less → IsSome (get s' (slice_index less i))
    present_left i within =
        let p = left i within in
        subst (λ o. IsSome o) (sym (same_left i within ∙ ap (get s) p.0.same)) (covers.present p.0.place p.0.within)

    complete_left : (k : ℕ) → IsSome (get s' k) → (i : ℕ) × (i < length less) × (slice_index less i ≡ k)
    complete_left k some = elim (cases_eq k key) [
      | inl same ↦ absurd (false≢true (subst (λ o. IsSome o) (ap (get s') same ∙ updates.changed) some))
      | inr other ↦
          let v = covers.complete k (subst (λ o. IsSome o) (updates.others k other) some) in
          elim (cases_order v.0 at) [
            | inl here ↦ absurd (other (sym v.2 ∙ ap (slice_index keys) here ∙ is))
            | inr (inl lt) ↦ (v.0, omega (arith, length-remove keys at in_range, v.1), get_or-remove_below keys at 0 v.0 lt in_range ∙ v.2)
            | inr (inr gt) ↦
                let on : v.0 - 1 + 1 ≡ v.0 = omega arith in
                (v.0 - 1, omega (arith, length-remove keys at in_range, v.1), get_or-remove_above keys at 0 (v.0 - 1) (omega arith) in_range ∙ ap (slice_index keys) on ∙ v.2)
          ]
    ]

    apart_left : (i j : ℕ) → i < j → j < length less → slice_index less i ≢ slice_index less j
    apart_left i j lt within same =
        let p = left i (omega arith) in
        let q = left j within in
        covers.apart p.0.place q.0.place (left_in_order at i j p.0.place q.0.place lt p.1 p.2 q.1 q.2) q.0.within (sym p.0.same ∙ same ∙ q.0.same)

    pub covers_left : Covers s' less
    covers_left = record { present = present_left; complete = complete_left; apart = apart_left }

    pub rises_left : {K : Type 0} (R : K → K → Ordering) (read : Ask → K) → Rises R read s keys → Rises R read s' less
    rises_left R read rises i j b c lt within e f =
        let p = left i (omega arith) in
        let q = left j within in
        rises p.0.place q.0.place b c (left_in_order at i j p.0.place q.0.place lt p.1 p.2 q.1 q.2) q.0.within
        (ap (get s) (sym p.0.same) ∙ sym (same_left i (omega arith)) ∙ e)
        (ap (get s) (sym q.0.same) ∙ sym (same_left j within) ∙ f)

-- ---- none

-- without asks, no keys cover the slab
pub no_keys : (s : Slab Ask) → ((key : ℕ) → get s key ≡ None) → Covers s []
no_keys s none = record {
  present = λ i within. absurd (omega arith);
  complete = λ key some. absurd (false≢true (subst (λ o. IsSome o) (none key) some));
  apart = λ i j less within. absurd (omega arith);
}

pub rises_none : {K : Type 0} (R : K → K → Ordering) (read : Ask → K) (s : Slab Ask) → Rises R read s []
rises_none R read s i j a b less within = absurd (omega arith)

-- Counts of entries by a number of their slots.
use Rattle.std.proofs.Common.{◌≡◌, ℕ, zero, suc, ◌+◌, ◌≤◌, Bool, true, false, cond, if◌then◌else◌, ◌||◌, nat_lt, not, List, [], ◌∷◌, ◌++◌, length, take, Option, None, Some, inl, inr, refl, sym, ap, subst, arith}
use Rattle.std.proofs.lemmas.Bool.{eq-eqb}
use Rattle.std.proofs.lemmas.Bool.Decides.{nat_tests}
use Rattle.std.specs.List.{slice_get}
use Rattle.std.specs.Option.{option_to_list}
use Rattle.trust_rank.specs.declared.slot.Slot.{Slot}
use Rattle.record_cache.specs.Values.{Held}
use Rattle.record_cache.specs.Entries.{of_slot, entry_of, without, promoted, AreApart, is_number, has_number}
use Rattle.record_cache.specs.Storing.{number_in, one_if, counted}
use Rattle.record_cache.specs.Laws.{Among}
use Rattle.record_cache.proofs.Lists.{without_none, none_behind, promoted_is, slot_is}

pub told_few : (n : ℕ) (o : Option ℕ) → one_if n o ≤ 1
told_few n o = (elim (is_number n o) as (λ b. (if b then 1 else 0) ≤ 1) [ true ↦ omega arith | false ↦ omega arith ])

pub number_own : (n : ℕ) → is_number n (Some n) ≡ true
number_own n = eq-eqb n n refl

pub told_own : (n : ℕ) → one_if n (Some n) ≡ 1
told_own n = rw (number_own n) refl

pub or_left : (a b : Bool) → (a || b) ≡ false → a ≡ false
or_left true b h = cc
or_left false b h = refl

pub or_right : (a b : Bool) → (a || b) ≡ false → b ≡ false
or_right true b h = cc
or_right false b h = h

module _ (f : Slot → Option ℕ) where
  pub counted_few : (n : ℕ) (es : List Held) → counted f n es ≤ length es
  counted_few n [] = omega arith
  counted_few n (h ∷ es) = omega (arith, told_few n (f h.piece.slot), counted_few n es)

  counted_append : (n : ℕ) (xs ys : List Held) → counted f n (xs ++ ys) ≡ counted f n xs + counted f n ys
  counted_append n [] ys = omega arith
  counted_append n (h ∷ xs) ys = omega (arith, counted_append n xs ys)

  -- the counted entries are the slot's entry and the rest
  pub counted_without : (n : ℕ) (s : Slot) (es : List Held) → AreApart es → counted f n es ≡ one_if n (number_in f (entry_of s es)) + counted f n (without s es)
  counted_without n s [] apart = refl
  counted_without n s (h ∷ es) apart = (elim (of_slot s h) as (λ b. of_slot s h ≡ b → one_if n (f h.piece.slot) + counted f n es ≡ one_if n (number_in f (cond b (Some h) (entry_of s es))) + counted f n (cond (not b) (h ∷ without s es) (without s es))) [
    | true ↦ λ is. ap (λ xs. one_if n (f h.piece.slot) + counted f n xs) (sym (without_none s es (none_behind s h es apart is)))
    | false ↦ λ is. omega (arith, counted_without n s es apart.1)
  ]) refl

  counted_entry : (n : ℕ) (o : Option Held) → counted f n (option_to_list o) ≡ one_if n (number_in f o)
  counted_entry n None = refl
  counted_entry n (Some h) = omega arith

  pub counted_promoted : (n : ℕ) (s : Slot) (es : List Held) → AreApart es → counted f n (promoted s es) ≡ counted f n es
  counted_promoted n s es apart = rw (promoted_is s es apart) (omega (arith, counted_append n (option_to_list (entry_of s es)) (without s es), counted_entry n (entry_of s es), counted_without n s es apart))

  -- the count of the first m entries and the next
  pub counted_take : (n m : ℕ) (es : List Held) → length es ≤ m + 1 → counted f n es ≡ one_if n (number_in f (slice_get es m)) + counted f n (take m es)
  counted_take n zero [] short = refl
  counted_take n zero (h ∷ []) short = refl
  counted_take n zero (h ∷ e ∷ es) short = absurd (omega arith)
  counted_take n (suc m) [] short = refl
  counted_take n (suc m) (h ∷ es) short = let rest = counted_take n m es (omega arith) in omega (arith, rest)

  -- an entry has the number if the count is above 0
  pub some_number : (n : ℕ) (es : List Held) → nat_lt 0 (counted f n es) ≡ has_number f n es
  some_number n [] = refl
  some_number n (h ∷ es) = (elim (is_number n (f h.piece.slot)) as (λ b. nat_lt 0 ((if b then 1 else 0) + counted f n es) ≡ b || has_number f n es) [
    | true ↦ grind (arith, nat_tests)
    | false ↦ none_more n es (some_number n es)
  ])
    where
      none_more : (n : ℕ) (es : List Held) → nat_lt 0 (counted f n es) ≡ has_number f n es → nat_lt 0 (0 + counted f n es) ≡ has_number f n es
      none_more n es same = let e : 0 + counted f n es ≡ counted f n es = omega arith in rw e same

  -- ---- if no entry has a number, no slot of that number has an entry

  has_own : (n : ℕ) (s t : Slot) → f s ≡ Some n → s ≡ t → is_number n (f t) ≡ true
  has_own n s t is same = subst (λ (x : Slot). is_number n (f x) ≡ true) same (subst (λ (o : Option ℕ). is_number n o ≡ true) (sym is) (number_own n))

  pub no_entry : (n : ℕ) (s : Slot) (es : List Held) → f s ≡ Some n → has_number f n es ≡ false → entry_of s es ≡ None
  no_entry n s [] is none = refl
  no_entry n s (e ∷ es) is none = (elim (of_slot s e) as (λ b. of_slot s e ≡ b → cond b (Some e) (entry_of s es) ≡ None) [
    | true ↦ λ own.
        let there = has_own n s e.piece.slot is (slot_is s e own) in
        let not_there = or_left (is_number n (f e.piece.slot)) (has_number f n es) none in
        absurd cc
    | false ↦ λ own. no_entry n s es is (or_right (is_number n (f e.piece.slot)) (has_number f n es) none)
  ]) refl

  pub none_among : (n : ℕ) (es : List Held) (h : Held) → Among h es → f h.piece.slot ≡ Some n → has_number f n es ≡ false → ⊥
  none_among n [] h among is none = among
  none_among n (e ∷ es) h (inl same) is none =
      let there = has_own n h.piece.slot e.piece.slot is (ap (λ (x : Held). x.piece.slot) (sym same)) in
      let not_there = or_left (is_number n (f e.piece.slot)) (has_number f n es) none in
      absurd cc
  none_among n (e ∷ es) h (inr among) is none = none_among n es h among is (or_right (is_number n (f e.piece.slot)) (has_number f n es) none)

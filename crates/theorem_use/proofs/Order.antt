-- Entries after others: the order left by promotions and the cut to the capacity.
use Rattle.std.proofs.Common.{◌≡◌, ◌∙◌, ℕ, zero, suc, ◌≤◌, List, [], ◌∷◌, ◌++◌, length, take, filter, Bool, true, false, cond, refl, sym, ap, subst, inl, inr, arith}
use Rattle.std.specs.Prelude.{not}
use Rattle.std.specs.List.{AllByRecursion}
use Rattle.std.proofs.lemmas.Bool.{false≢true, true≢false, not_from_false}
use Rattle.trust_rank.specs.declared.slot.Slot.{Slot}
use Rattle.record_cache.specs.Values.{Held}
use Rattle.record_cache.specs.Entries.{is_slot, of_slot, without, promoted, AreApart}
use Rattle.record_cache.specs.Laws.{Among}
use Rattle.record_cache.proofs.CallerLemmas.{slots_decide, among_filter}
use Rattle.alias_chains.specs.LookingUp.{promoted_all}
use Rattle.theorem_sound.proofs.TheoremCache.CallerLemmas.{all_among, all_from, among_filtered}
use Rattle.theorem_use.specs.Use.{IsOneOf}
use Rattle.theorem_use.specs.Mirrors.{ComesAfter}
use Rattle.theorem_use.proofs.Offers.{promoted_among}

-- ---- a piece after entries of these slots alone

-- a piece after some entries is an entry
pub behind_among : (slots : List Slot) (o : Held) (es : List Held) → ComesAfter slots o es → Among o es
behind_among slots o [] behind = absurd behind
behind_among slots o (e ∷ es) (inl here) = inl here
behind_among slots o (e ∷ es) (inr later) = inr (behind_among slots o es later.1)

-- the piece is also after entries of more slots
behind_more : (slots others : List Slot) (o : Held) (es : List Held) → ((x : Slot) → IsOneOf x slots → IsOneOf x others) → ComesAfter slots o es → ComesAfter others o es
behind_more slots others o [] over behind = absurd behind
behind_more slots others o (e ∷ es) over (inl here) = inl here
behind_more slots others o (e ∷ es) over (inr later) = inr (over e.piece.slot later.0, behind_more slots others o es over later.1)

-- the piece stays after entries of these slots alone if some entries go
pub behind_filter : (test : Held → Bool) (slots : List Slot) (o : Held) (es : List Held) → ComesAfter slots o es → test o ≡ true → ComesAfter slots o (filter test es)
behind_filter test slots o [] behind passes = absurd behind
behind_filter test slots o (e ∷ es) behind passes = by (λ later. behind_filter test slots o es later passes) (test e) refl behind
  where
    by : (ComesAfter slots o es → ComesAfter slots o (filter test es)) → (b : Bool) → test e ≡ b → ComesAfter slots o (e ∷ es) → ComesAfter slots o (cond b (e ∷ filter test es) (filter test es))
    by rest true t (inl here) = inl here
    by rest true t (inr later) = inr (later.0, rest later.1)
    by rest false f (inl here) = absurd (false≢true (sym f ∙ ap test here ∙ passes))
    by rest false f (inr later) = rest later.1

-- if entries are added at the end
behind_before : (slots : List Slot) (o : Held) (xs ys : List Held) → ComesAfter slots o xs → ComesAfter slots o (xs ++ ys)
behind_before slots o [] ys behind = absurd behind
behind_before slots o (x ∷ xs) ys (inl here) = inl here
behind_before slots o (x ∷ xs) ys (inr later) = inr (later.0, behind_before slots o xs ys later.1)

-- and if entries of these slots are added in front
behind_these : (slots : List Slot) (o : Held) (xs ys : List Held) → AllByRecursion (λ e. IsOneOf e.piece.slot slots) xs → ComesAfter slots o ys → ComesAfter slots o (xs ++ ys)
behind_these slots o [] ys each behind = behind
behind_these slots o (x ∷ xs) ys each behind = inr (each.0, behind_these slots o xs ys each.1 behind)

-- a piece among entries of these slots is after such entries alone
among_behind : (slots : List Slot) (o : Held) (xs : List Held) → AllByRecursion (λ e. IsOneOf e.piece.slot slots) xs → Among o xs → ComesAfter slots o xs
among_behind slots o [] each among = absurd among
among_behind slots o (x ∷ xs) each (inl here) = inl here
among_behind slots o (x ∷ xs) each (inr later) = inr (each.0, among_behind slots o xs each.1 later)

-- ---- promotions

-- the entries of a slot are of the slot
of_this : (slot : Slot) (slots : List Slot) (es : List Held) → IsOneOf slot slots → AllByRecursion (λ e. IsOneOf e.piece.slot slots) (filter (of_slot slot) es)
of_this slot slots es one = all_from (λ e. IsOneOf e.piece.slot slots) (filter (of_slot slot) es)
    (λ e among. subst (λ (x : Slot). IsOneOf x slots) ((slots_decide slot e.piece.slot).0 (among_filtered (of_slot slot) e es among).1) one)

-- after a promotion of a slot in the list, a piece is still after entries of these slots
promoted_behind : (slot : Slot) (slots : List Slot) (o : Held) (es : List Held) → IsOneOf slot slots → ComesAfter slots o es → ComesAfter slots o (promoted slot es)
promoted_behind slot slots o es one behind = by (of_slot slot o) refl
  where
    by : (b : Bool) → of_slot slot o ≡ b → ComesAfter slots o (promoted slot es)
    by true t = behind_before slots o (filter (of_slot slot) es) (without slot es) (behind_filter (of_slot slot) slots o es behind t)
    by false f = behind_these slots o (filter (of_slot slot) es) (without slot es) (of_this slot slots es one)
        (behind_filter (λ e. not (of_slot slot e)) slots o es behind (not_from_false (of_slot slot o) f))

pub promotions_behind : (used slots : List Slot) (o : Held) (es : List Held) → AllByRecursion (λ x. IsOneOf x slots) used → ComesAfter slots o es → ComesAfter slots o (promoted_all used es)
promotions_behind [] slots o es each behind = behind
promotions_behind (slot ∷ used) slots o es each behind = promotions_behind used slots o (promoted slot es) each.1 (promoted_behind slot slots o es each.0 behind)

-- if a piece's own slot is promoted, the piece is after promoted entries alone
pub used_behind : (used slots : List Slot) (o : Held) (es : List Held) → AllByRecursion (λ x. IsOneOf x slots) used → Among o es → IsOneOf o.piece.slot used → ComesAfter slots o (promoted_all used es)
used_behind [] slots o es each among one = absurd one
used_behind (slot ∷ used) slots o es each among (inl same) =
    promotions_behind used slots o (promoted slot es) each.1
    (behind_before slots o (filter (of_slot slot) es) (without slot es)
    (among_behind slots o (filter (of_slot slot) es) (of_this slot slots es each.0) (among_filter (of_slot slot) es o among ((slots_decide slot o.piece.slot).1 same))))
used_behind (slot ∷ used) slots o es each among (inr later) = used_behind used slots o (promoted slot es) each.1 (promoted_among slot es o among) later

-- ---- the cut to the capacity

-- the slots except for `slot`
abbrev others : Slot → List Slot → List Slot
others slot slots = filter (λ x. not (is_slot slot x)) slots

no_more : (slot : Slot) (slots : List Slot) → length (others slot slots) ≤ length slots
no_more slot [] = omega arith
no_more slot (x ∷ slots) = by (no_more slot slots) (is_slot slot x)
  where
    by : length (others slot slots) ≤ length slots → (b : Bool) → length (cond (not b) (x ∷ others slot slots) (others slot slots)) ≤ suc (length slots)
    by rest true = omega (arith, rest)
    by rest false = omega (arith, rest)

fewer : (slot : Slot) (slots : List Slot) → IsOneOf slot slots → suc (length (others slot slots)) ≤ length slots
fewer slot [] one = absurd one
fewer slot (x ∷ slots) one = by (fewer slot slots) (is_slot slot x) refl one
  where
    by : (IsOneOf slot slots → suc (length (others slot slots)) ≤ length slots) → (b : Bool) → is_slot slot x ≡ b → IsOneOf slot (x ∷ slots)
        → suc (length (cond (not b) (x ∷ others slot slots) (others slot slots))) ≤ suc (length slots)
    by rest true t is = let more = no_more slot slots in omega (arith, more)
    by rest false f (inl same) = absurd (false≢true (sym f ∙ (slots_decide slot x).1 (sym same)))
    by rest false f (inr later) = let less = rest later in omega (arith, less)

one_of_others : (x slot : Slot) (slots : List Slot) → IsOneOf x slots → is_slot slot x ≡ false → IsOneOf x (others slot slots)
one_of_others x slot [] one other = absurd one
one_of_others x slot (y ∷ slots) one other = by (λ later. one_of_others x slot slots later other) (is_slot slot y) refl one
  where
    by : (IsOneOf x slots → IsOneOf x (others slot slots)) → (b : Bool) → is_slot slot y ≡ b → IsOneOf x (y ∷ slots) → IsOneOf x (cond (not b) (y ∷ others slot slots) (others slot slots))
    by rest true t (inl same) = absurd (true≢false (sym t ∙ ap (is_slot slot) same ∙ other))
    by rest true t (inr later) = rest later
    by rest false f (inl same) = inl same
    by rest false f (inr later) = inr (rest later)

one_of_all : (x slot : Slot) (slots : List Slot) → IsOneOf x (others slot slots) → IsOneOf x slots
one_of_all x slot [] one = absurd one
one_of_all x slot (y ∷ slots) one = by (one_of_all x slot slots) (is_slot slot y) one
  where
    by : (IsOneOf x (others slot slots) → IsOneOf x slots) → (b : Bool) → IsOneOf x (cond (not b) (y ∷ others slot slots) (others slot slots)) → IsOneOf x (y ∷ slots)
    by rest true later = inr (rest later)
    by rest false (inl same) = inl same
    by rest false (inr later) = inr (rest later)

-- if no entry is of a slot, a piece is after entries of the remaining slots
behind_others : (slot : Slot) (slots : List Slot) (o : Held) (es : List Held) → AllByRecursion (λ e. of_slot slot e ≡ false) es → ComesAfter slots o es → ComesAfter (others slot slots) o es
behind_others slot slots o [] none behind = absurd behind
behind_others slot slots o (e ∷ es) none (inl here) = inl here
behind_others slot slots o (e ∷ es) none (inr later) = inr (one_of_others e.piece.slot slot slots later.0 none.0, behind_others slot slots o es none.1 later.1)

-- a piece of no more slots than the capacity is not cut, if entries of these slots alone are in
-- front
pub behind_take : (most : ℕ) (slots : List Slot) (o : Held) (es : List Held) → AreApart es → IsOneOf o.piece.slot slots → length slots ≤ most → ComesAfter slots o es → ComesAfter slots o (take most es)
behind_take zero [] o es apart own few behind = absurd own
behind_take zero (slot ∷ slots) o es apart own few behind = absurd (omega (arith, few))
behind_take (suc most) slots o [] apart own few behind = absurd behind
behind_take (suc most) slots o (e ∷ es) apart own few (inl here) = inl here
behind_take (suc most) slots o (e ∷ es) apart own few (inr later) =
    let differs : is_slot e.piece.slot o.piece.slot ≡ false = all_among (λ x. of_slot e.piece.slot x ≡ false) o es apart.0 (behind_among slots o es later.1) in
    let less = fewer e.piece.slot slots later.0 in
    let rest : ComesAfter (others e.piece.slot slots) o (take most es) =
    behind_take most (others e.piece.slot slots) o es apart.1 (one_of_others o.piece.slot e.piece.slot slots own differs)
    (omega (arith, few, less)) (behind_others e.piece.slot slots o es apart.0 later.1) in
    inr (later.0, behind_more (others e.piece.slot slots) slots o (take most es) (λ x one. one_of_all x e.piece.slot slots one) rest)

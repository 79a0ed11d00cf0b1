-- Entries of few slots are few.
use Rattle.std.proofs.Common.{◌≡◌, ℕ, suc, ◌≤◌, List, [], ◌∷◌, length, Bool, true, false, cond, refl, sym, ap, ◌∙◌, inl, inr, arith}
use Rattle.std.specs.Prelude.{not}
use Rattle.std.specs.List.{AllByRecursion}
use Rattle.std.proofs.lemmas.Bool.{true≢false, not-true}
use Rattle.trust_rank.specs.declared.slot.Slot.{Slot}
use Rattle.record_cache.specs.Values.{Held}
use Rattle.record_cache.specs.Entries.{of_slot, without, AreApart, AreHeld}
use Rattle.record_cache.specs.Laws.{Among}
use Rattle.record_cache.proofs.CallerLemmas.{slots_decide, none_behind, without_are_held}
use Rattle.theorem_sound.proofs.TheoremCache.CallerLemmas.{all_among, all_from, among_filtered}
use Rattle.theorem_use.specs.Use.{IsOneOf}

-- if no entry is of a slot, forgetting the slot changes nothing
without_none : (slot : Slot) (xs : List Held) → AllByRecursion (λ e. of_slot slot e ≡ false) xs → without slot xs ≡ xs
without_none slot [] none = refl
without_none slot (x ∷ xs) none = rw none.0 (ap (λ es. x ∷ es) (without_none slot xs none.1))

-- at most one entry is of a slot, so at most one is forgotten
one_forgotten : (slot : Slot) (xs : List Held) → AreApart xs → length xs ≤ suc (length (without slot xs))
one_forgotten slot [] apart = omega arith
one_forgotten slot (x ∷ xs) apart = by (one_forgotten slot xs apart.1) (of_slot slot x) refl
  where
    by : length xs ≤ suc (length (without slot xs)) → (b : Bool) → of_slot slot x ≡ b → length (x ∷ xs) ≤ suc (length (cond (not b) (x ∷ without slot xs) (without slot xs)))
    by rest true t = let same : length (without slot xs) ≡ length xs = ap length (without_none slot xs (none_behind slot x xs apart t)) in omega (arith, same)
    by rest false f = omega (arith, rest)

-- a slot in the list, not the first, is among the rest
among_others : (slot : Slot) (slots : List Slot) (h : Held) → of_slot slot h ≡ false → IsOneOf h.piece.slot (slot ∷ slots) → IsOneOf h.piece.slot slots
among_others slot slots h other (inl same) = absurd (true≢false (sym ((slots_decide slot h.piece.slot).1 same) ∙ other))
among_others slot slots h other (inr later) = later

-- held entries, each of a listed slot, are no more than the slots
pub held_are_few : (capacity : ℕ) (slots : List Slot) (xs : List Held) → AreHeld (record { capacity = capacity; entries = xs }) → AllByRecursion (λ e. IsOneOf e.piece.slot slots) xs
    → length xs ≤ length slots
held_are_few capacity [] [] held each = omega arith
held_are_few capacity [] (x ∷ xs) held each = absurd each.0
held_are_few capacity (slot ∷ slots) xs held each =
    let fewer = held_are_few capacity slots (without slot xs) (without_are_held capacity slot xs held) (all_from (λ e. IsOneOf e.piece.slot slots) (without slot xs) others) in
    omega (arith, fewer, one_forgotten slot xs held.apart)
  where
    others : (e : Held) → Among e (without slot xs) → IsOneOf e.piece.slot slots
    others e among =
        let part = among_filtered (λ x. not (of_slot slot x)) e xs among in
        among_others slot slots e (not-true (of_slot slot e) part.1) (all_among (λ x. IsOneOf x.piece.slot (slot ∷ slots)) e xs each part.0)

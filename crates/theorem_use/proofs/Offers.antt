-- Promotions and the offers of a reply keep `Mirrors`.
use Rattle.std.proofs.Common.{◌≡◌, ℕ, ◌+◌, ◌≤◌, List, [], ◌∷◌, ◌++◌, length, Bool, true, false, refl, ◌⊎◌, inl, inr, arith}
use Rattle.std.specs.Prelude.{not, filter}
use Rattle.std.specs.List.{AllByRecursion}
use Rattle.std.proofs.lemmas.Bool.{not_from_false}
use Rattle.trust_rank.specs.declared.slot.Slot.{Slot}
use Rattle.trust_rank.specs.Values.{Piece}
use Rattle.trust_rank.specs.Formed.{IsPiece}
use Rattle.record_cache.specs.Values.{Held}
use Rattle.record_cache.specs.Entries.{of_slot, without, promoted, AreHeld}
use Rattle.record_cache.specs.Laws.{Among}
use Rattle.record_cache.proofs.CallerLemmas.{among_filter}
use Rattle.step_history.specs.Carried.{then_carried}
use Rattle.alias_chains.specs.LookingUp.{promoted_all}
use Rattle.alias_chains.specs.Offering.{ended_so, put, count_of, put_all, unkept_of, held_at}
use Rattle.theorem_sound.proofs.TheoremCache.CallerLemmas.{among_filtered, offers_keep}
use Rattle.theorem_use.specs.Use.{IsOneOf}
use Rattle.theorem_use.specs.Mirrors.{Mirrors}
use Rattle.theorem_use.proofs.Putting.{put_mirrors}

-- entries mirroring at a moment mirror later
pub mirrors_later : (m n : ℕ) (os es : List Held) → m ≤ n → Mirrors m os es → Mirrors n os es
mirrors_later m n os es le was = record {
  was_carried = was.was_carried;
  stands = λ k from h among alive. was.stands k (omega (arith, le, from)) h among alive;
  held = λ k from h among. was.held k (omega (arith, le, from)) h among;
}

-- ---- promotions

-- a member of the first list is in the joined list
among_front : (h : Held) (xs ys : List Held) → Among h xs → Among h (xs ++ ys)
among_front h [] ys among = absurd among
among_front h (x ∷ xs) ys (inl here) = inl here
among_front h (x ∷ xs) ys (inr later) = inr (among_front h xs ys later)

-- a member of the second list is in the joined list
among_back : (h : Held) (xs ys : List Held) → Among h ys → Among h (xs ++ ys)
among_back h [] ys among = among
among_back h (x ∷ xs) ys among = inr (among_back h xs ys among)

-- a member of the joined list is in the first or the second
among_either : (h : Held) (xs ys : List Held) → Among h (xs ++ ys) → Among h xs ⊎ Among h ys
among_either h [] ys among = inr among
among_either h (x ∷ xs) ys (inl here) = inl (inl here)
among_either h (x ∷ xs) ys (inr later) = elim (among_either h xs ys later) [ inl front ↦ inl (inr front) | inr back ↦ inr back ]

-- a promotion leaves each entry
pub promoted_among : (slot : Slot) (es : List Held) (h : Held) → Among h es → Among h (promoted slot es)
promoted_among slot es h among = by (of_slot slot h) refl
  where
    by : (b : Bool) → of_slot slot h ≡ b → Among h (promoted slot es)
    by true t = among_front h (filter (of_slot slot) es) (without slot es) (among_filter (of_slot slot) es h among t)
    by false f = among_back h (filter (of_slot slot) es) (without slot es) (among_filter (λ e. not (of_slot slot e)) es h among (not_from_false (of_slot slot h) f))

-- and adds none
among_promoted : (slot : Slot) (es : List Held) (h : Held) → Among h (promoted slot es) → Among h es
among_promoted slot es h among = elim (among_either h (filter (of_slot slot) es) (without slot es) among) [
  | inl front ↦ (among_filtered (of_slot slot) h es front).0
  | inr back ↦ (among_filtered (λ e. not (of_slot slot e)) h es back).0
]

-- promotions keep `Mirrors`
pub promotions_mirror : (n : ℕ) (used : List Slot) (os es : List Held) → Mirrors n os es → Mirrors n os (promoted_all used es)
promotions_mirror n [] os es was = was
promotions_mirror n (slot ∷ used) os es was = promotions_mirror n used os (promoted slot es) (record {
  was_carried = λ h among. was.was_carried h (among_promoted slot es h among);
  stands = λ m from h among alive. was.stands m from h (among_promoted slot es h among) alive;
  held = λ m from h among. promoted_among slot es h (was.held m from h among);
})

-- ---- the offers of a reply

-- the entries mirror, if memory was found for each offer and all carried pieces are of these slots
abbrev MirrorsIn : ℕ → ℕ → List Slot → List Held → List Held → ℕ → Type 0
MirrorsIn capacity n slots os es k =
    AllByRecursion (λ o. IsOneOf o.piece.slot slots) os → k ≡ 0 → AreHeld (record { capacity = capacity; entries = es }) × Mirrors n os es

-- after the offers of an accepted reply the entries mirror the standing pieces, if few slots were
-- carried and memory was found
pub offers_mirror : (capacity n : ℕ) (slots : List Slot) (rooms : List Bool) (ps : List Piece) (os es : List Held)
    → length slots ≤ capacity → AllByRecursion (λ o. IsOneOf o.piece.slot slots) (then_carried n ps os)
    → AllByRecursion IsPiece ps → AreHeld (record { capacity = capacity; entries = es })
    → Mirrors n os es → unkept_of capacity n rooms ps es ≡ 0
    → Mirrors n (then_carried n ps os) (put_all capacity n rooms ps es)
offers_mirror capacity n slots rooms ps os es few each pieces held was none = (after each (omega (arith, none))).1
  where
    one : (room : Bool) (p : Piece) (before entries : List Held) (k : ℕ) → IsPiece p → MirrorsIn capacity n slots before entries k
        → MirrorsIn capacity n slots (held_at n p ∷ before) (put capacity n room p entries) (k + count_of (ended_so n room p entries))
    one room p before entries k formed mirrors all zero =
        let so_far = mirrors all.1 (omega (arith, zero)) in
        put_mirrors capacity n p formed entries so_far.0 before so_far.1 slots few all room (omega (arith, zero))

    after : MirrorsIn capacity n slots (then_carried n ps os) (put_all capacity n rooms ps es) (0 + unkept_of capacity n rooms ps es)
    after = offers_keep capacity n IsPiece (MirrorsIn capacity n slots) one rooms ps os es 0 pieces (λ all zero. (held, was))

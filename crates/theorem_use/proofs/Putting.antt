-- An offer keeps `Mirrors`, for each end of an offer.
use Rattle.std.proofs.Common.{◌≡◌, ℕ, suc, ◌≤◌, List, ◌∷◌, length, take_all, Bool, true, false, cond, Some, refl, sym, ap, ◌∙◌, subst, inl, inr, arith}
use Rattle.std.specs.Prelude.{not, ◌==◌, ◌&&◌, ◌||◌, nat_lt, nat_le, is_none}
use Rattle.std.specs.List.{list_any, AllByRecursion}
use Rattle.std.proofs.lemmas.Bool.{cond-true, cond-false, and_parts, and_from, and_right, or_left, not-true, not_from_false, false_from_ne_true, true_from_ne_false, false≢true, ltb-true, lt-ltb, lt-leb, leb-false, eqb-true}
use Rattle.trust_rank.specs.declared.slot.Slot.{Slot}
use Rattle.trust_rank.specs.Values.{Piece}
use Rattle.trust_rank.specs.Replacing.{same_slot, is_name_error, shows_name, takes_place_of}
use Rattle.trust_rank.specs.Formed.{IsPiece}
use Rattle.record_cache.specs.Values.{Held}
use Rattle.record_cache.specs.Ageing.{is_alive, end_of}
use Rattle.record_cache.specs.Entries.{of_slot, has_slot, without, AreHeld}
use Rattle.record_cache.specs.Offers.{outranks, is_outranked, kept, offered}
use Rattle.record_cache.specs.Laws.{Among}
use Rattle.record_cache.specs.declared.cache.Offered.{Offered}
use Rattle.record_cache.specs.declared.cache.Offered.TheVariants.{Kept, Outranked, NotKept, Unkept}
use Rattle.record_cache.proofs.CallerLemmas.{slots_decide, slots_are_the_same, among_filter, without_are_held, kept_are_held}
use Rattle.negative_cache.specs.Entries.{denies}
use Rattle.negative_cache.specs.Showing.{shown}
use Rattle.negative_cache.proofs.CallerLemmas.{shown_is_replaced}
use Rattle.alias_chains.specs.Offering.{shown_by, ended_so, put, count_of, held_at}
use Rattle.theorem_sound.proofs.TheoremCache.CallerLemmas.{all_among, all_from, among_filtered, entry_among, own_key, not_taken, IsShown, shown_leaves}
use Rattle.theorem_use.specs.Standing.{is_believed, standing}
use Rattle.theorem_use.specs.Use.{IsOneOf}
use Rattle.theorem_use.specs.Mirrors.{Mirrors}
use Rattle.theorem_use.proofs.Standing.{IsFound, one_found, any_among, not_believed, one_above, newest_stands, still_stands, StoodBefore, stands_so, standing_lives}
use Rattle.theorem_use.proofs.Room.{held_are_few}

-- how an offer ends: outranked, without a lifetime, or with room or an old entry
abbrev ends_by : Bool → Bool → Bool → Offered
ends_by a b d = cond a Outranked (cond b NotKept (cond d Kept Unkept))

module _ (capacity n : ℕ) (p : Piece) (formed : IsPiece p) (es : List Held) (held : AreHeld (record { capacity = capacity; entries = es })) where
  -- the entries remaining after p shows its name, and p as an entry
  abbrev left : List Held
  left = shown_by p es

  facts : IsShown capacity p es left
  facts = shown_leaves capacity p es held

  abbrev new : Held
  new = held_at n p

  -- an entry is of p's slot exactly if the slots are equal, letter case aside
  own_slot : (h : Held) → Among h es → of_slot p.slot h ≡ same_slot p.slot h.piece.slot
  own_slot h among = slots_are_the_same p.slot h.piece.slot (own_key p formed) (own_key h.piece (all_among (λ x. IsPiece x.piece) h es held.formed among))

  -- in a slot both pieces are name errors or neither is
  one_kind : (h : Held) → of_slot p.slot h ≡ true → is_name_error p ≡ is_name_error h.piece
  one_kind h own = ap (λ (s : Slot). is_none s.kind) ((slots_decide p.slot h.piece.slot).0 own)

  -- a piece of p's slot with a higher rank keeps its place
  pub higher_stays : (h : Held) → is_name_error p ≡ false → of_slot p.slot h ≡ true → nat_lt p.rank h.piece.rank ≡ true → takes_place_of p h.piece ≡ false
  higher_stays h set own higher =
      cond-false (is_name_error h.piece) _ _ (sym (one_kind h own) ∙ set)
      ∙ and_right (same_slot p.slot h.piece.slot) (nat_le h.piece.rank p.rank) (lt-leb h.piece.rank p.rank (ltb-true p.rank h.piece.rank higher))

  -- a piece of p's slot keeping its place has a higher rank, and p is no name error
  pub stays_higher : (h : Held) → Among h es → of_slot p.slot h ≡ true → takes_place_of p h.piece ≡ false → (is_name_error p ≡ false) × (nat_lt p.rank h.piece.rank ≡ true)
  stays_higher h among own free = by (is_name_error h.piece) refl
    where
      same : same_slot p.slot h.piece.slot ≡ true
      same = sym (own_slot h among) ∙ own

      by : (b : Bool) → is_name_error h.piece ≡ b → (is_name_error p ≡ false) × (nat_lt p.rank h.piece.rank ≡ true)
      by true error = absurd (false≢true (sym free ∙ cond-true (is_name_error h.piece) _ _ error ∙ or_left (same_slot p.slot h.piece.slot) (shows_name p h.piece) same))
      by false set =
          let low : nat_le h.piece.rank p.rank ≡ false = sym (λ i. same i && nat_le h.piece.rank p.rank) ∙ sym (cond-false (is_name_error h.piece) _ _ set) ∙ free in
          (one_kind h own ∙ set, lt-ltb p.rank h.piece.rank (leb-false h.piece.rank p.rank low))

  -- an entry keeping its place remains
  pub stays_left : (h : Held) → Among h es → takes_place_of p h.piece ≡ false → Among h left
  stays_left h among free = by (is_name_error p) refl
    where
      by : (b : Bool) → is_name_error p ≡ b → Among h (cond b es (shown p.owner p.slot.class es))
      by true error = among
      by false set =
          among_filter (λ e. not (denies p.owner p.slot.class e)) es h among
          (not_from_false (denies p.owner p.slot.class h) (shown_is_replaced p h formed set ∙ and_right (is_name_error h.piece) (takes_place_of p h.piece) free))

  -- a living entry of p's slot with a higher rank outranks p
  pub outranked_by : (h : Held) → Among h left → is_alive n h ≡ true → is_name_error p ≡ false → of_slot p.slot h ≡ true → nat_lt p.rank h.piece.rank ≡ true → is_outranked n p left ≡ true
  outranked_by h among alive set own higher =
      and_from (not (is_name_error p)) (list_any (outranks n p) left) (not_from_false (is_name_error p) set)
      (any_among (outranks n p) h left among (and_from (of_slot p.slot h) (is_alive n h && nat_lt p.rank h.piece.rank) own (and_from (is_alive n h) (nat_lt p.rank h.piece.rank) alive higher)))

  -- a remaining entry of another slot keeps its place
  other_stays : (h : Held) → Among h left → of_slot p.slot h ≡ false → takes_place_of p h.piece ≡ false
  other_stays h among other = not_taken p h formed (all_among (λ x. IsPiece x.piece) h left facts.held.formed among) other (facts.over h among)

  -- ---- mirroring entries

  module _ (os : List Held) (was : Mirrors n os es) where
    -- a remaining entry was carried
    left_carried : (h : Held) → Among h left → Among h (new ∷ os)
    left_carried h among = inr (was.was_carried h (facts.was h among))

    -- a remaining entry keeping its place stands
    left_stands : (m : ℕ) → n ≤ m → (h : Held) → Among h left → is_alive m h ≡ true → takes_place_of p h.piece ≡ false → Among h (standing m (new ∷ os))
    left_stands m from h among alive free = still_stands m new h os (was.stands m from h (facts.was h among) alive) free

    -- an earlier standing piece keeping its place remains
    stood_left : (m : ℕ) → n ≤ m → (h : Held) → StoodBefore m new h os → Among h left
    stood_left m from h before = stays_left h (was.held m from h before.among) before.free

    -- ---- p is outranked

    module _ (outranked : is_outranked n p left ≡ true) where
      -- p is no name error, and a remaining entry outranks p
      parts : (not (is_name_error p) ≡ true) × (list_any (outranks n p) left ≡ true)
      parts = and_parts (not (is_name_error p)) (list_any (outranks n p) left) outranked

      is_set : is_name_error p ≡ false
      is_set = not-true (is_name_error p) parts.0

      above : IsFound (outranks n p) left
      above = one_found (outranks n p) left parts.1

      -- the outranking entry is of p's slot, alive, and of a higher rank
      own : of_slot p.slot above.one ≡ true
      own = (and_parts (of_slot p.slot above.one) (is_alive n above.one && nat_lt p.rank above.one.piece.rank) above.passes).0

      lives_higher : (is_alive n above.one ≡ true) × (nat_lt p.rank above.one.piece.rank ≡ true)
      lives_higher = and_parts (is_alive n above.one) (nat_lt p.rank above.one.piece.rank) (and_parts (of_slot p.slot above.one) (is_alive n above.one && nat_lt p.rank above.one.piece.rank) above.passes).1

      -- each remaining entry keeps its place
      all_stay : (h : Held) → Among h left → takes_place_of p h.piece ≡ false
      all_stay h among = by (of_slot p.slot h) refl
        where
          by : (b : Bool) → of_slot p.slot h ≡ b → takes_place_of p h.piece ≡ false
          by false other = other_stays h among other
          by true mine =
              let both : Some above.one ≡ Some h = sym (entry_among p.slot above.one left facts.held.apart above.among own) ∙ entry_among p.slot h left facts.held.apart among mine in
              let same : above.one ≡ h = cc in
              subst (λ (x : Held). takes_place_of p x.piece ≡ false) same (higher_stays above.one is_set own lives_higher.1)

      -- so p is not believed
      doubted : is_believed new (standing n os) ≡ false
      doubted =
          let among : Among above.one es = facts.was above.one above.among in
          not_believed new above.one (standing n os) is_set (was.stands n (omega arith) above.one among lives_higher.0)
          (and_from (same_slot p.slot above.one.piece.slot) (nat_lt p.rank above.one.piece.rank) (sym (own_slot above.one among) ∙ own) lives_higher.1)

      -- and the remaining entries mirror the standing pieces
      outranked_mirror : Mirrors n (new ∷ os) left
      outranked_mirror = record {
        was_carried = left_carried;
        stands = λ m from h among alive. left_stands m from h among alive (all_stay h among);
        held = λ m from h among. elim (stands_so m new h os among) [
          | inl newest ↦ absurd (false≢true (sym doubted ∙ newest.1.1))
          | inr before ↦ stood_left m from h before
        ];
      }

    -- ---- p is not outranked

    module _ (highest : is_outranked n p left ≡ false) where
      -- the remaining entries of other slots stand
      others_stand : (m : ℕ) → n ≤ m → (h : Held) → Among h (without p.slot left) → is_alive m h ≡ true → Among h (standing m (new ∷ os))
      others_stand m from h among alive =
          let part = among_filtered (λ x. not (of_slot p.slot x)) h left among in
          left_stands m from h part.0 alive (other_stays h part.0 (not-true (of_slot p.slot h) part.1))

      -- and were carried
      others_carried : (h : Held) → Among h (without p.slot left) → Among h (new ∷ os)
      others_carried h among = left_carried h (among_filtered (λ x. not (of_slot p.slot x)) h left among).0

      -- an earlier standing piece keeping its place is of another slot
      stood_others : (m : ℕ) → n ≤ m → (h : Held) → StoodBefore m new h os → Among h (without p.slot left)
      stood_others m from h before = among_filter (λ x. not (of_slot p.slot x)) left h mine (not_from_false (of_slot p.slot h) (false_from_ne_true (of_slot p.slot h) none))
        where
          mine : Among h left
          mine = stood_left m from h before

          alive : is_alive n h ≡ true
          alive = let later = ltb-true m (end_of h) (standing_lives m h os before.among) in lt-ltb n (end_of h) (omega (arith, from, later))

          none : of_slot p.slot h ≡ true → ⊥
          none own = let higher = stays_higher h (facts.was h mine) own before.free in false≢true (sym highest ∙ outranked_by h mine alive higher.0 own higher.1)

      -- p is believed
      believed : is_believed new (standing n os) ≡ true
      believed = true_from_ne_false (is_believed new (standing n os)) none
        where
          none : is_believed new (standing n os) ≡ false → ⊥
          none doubted =
              let above = one_above new (standing n os) doubted in
              let parts = and_parts (same_slot p.slot above.1.one.piece.slot) (nat_lt p.rank above.1.one.piece.rank) above.1.passes in
              let among : Among above.1.one es = was.held n (omega arith) above.1.one above.1.among in
              let own : of_slot p.slot above.1.one ≡ true = own_slot above.1.one among ∙ parts.0 in
              let mine : Among above.1.one left = stays_left above.1.one among (higher_stays above.1.one above.0 own parts.1) in
              false≢true (sym highest ∙ outranked_by above.1.one mine (standing_lives n above.1.one os above.1.among) above.0 own parts.1)

      -- without a lifetime p has expired at once
      dead_mirror : (p.lifetime == 0) ≡ true → Mirrors n (new ∷ os) (without p.slot left)
      dead_mirror none = record {
        was_carried = others_carried;
        stands = others_stand;
        held = λ m from h among. elim (stands_so m new h os among) [
          | inl newest ↦ (let ends = ltb-true m (end_of new) newest.1.0 in let zero_left = eqb-true p.lifetime 0 none in absurd (omega (arith, from, ends, zero_left)))
          | inr before ↦ stood_others m from h before
        ];
      }

      -- otherwise p goes to the front
      front_mirror : Mirrors n (new ∷ os) (new ∷ without p.slot left)
      front_mirror = record {
        was_carried = carried;
        stands = stands;
        held = λ m from h among. elim (stands_so m new h os among) [
          | inl newest ↦ inl newest.0
          | inr before ↦ inr (stood_others m from h before)
        ];
      }
        where
          carried : (h : Held) → Among h (new ∷ without p.slot left) → Among h (new ∷ os)
          carried h (inl here) = inl here
          carried h (inr later) = others_carried h later

          stands : (m : ℕ) → n ≤ m → (h : Held) → Among h (new ∷ without p.slot left) → is_alive m h ≡ true → Among h (standing m (new ∷ os))
          stands m from h (inl here) alive = subst (λ (x : Held). Among x (standing m (new ∷ os))) here (newest_stands m new os (subst (λ (x : Held). is_alive m x ≡ true) (sym here) alive) believed)
          stands m from h (inr later) alive = others_stand m from h later alive

      -- and nothing is dropped, if all carried pieces are of few slots
      nothing_dropped : (slots : List Slot) → length slots ≤ capacity → AllByRecursion (λ o. IsOneOf o.piece.slot slots) (new ∷ os) → kept capacity new left ≡ new ∷ without p.slot left
      nothing_dropped slots few each =
          let fits = held_are_few (suc capacity) slots (new ∷ without p.slot left) together (all_from (λ e. IsOneOf e.piece.slot slots) (new ∷ without p.slot left) one_of) in
          take_all capacity (new ∷ without p.slot left) (omega (arith, fits, few))
        where
          rest : AreHeld (record { capacity = capacity; entries = without p.slot left })
          rest = without_are_held capacity p.slot left facts.held

          together : AreHeld (record { capacity = suc capacity; entries = new ∷ without p.slot left })
          together = record {
            some = omega arith;
            few = omega (arith, rest.few);
            apart = (all_from (λ e. of_slot p.slot e ≡ false) (without p.slot left) (λ e among. not-true (of_slot p.slot e) (among_filtered (λ x. not (of_slot p.slot x)) e left among).1), rest.apart);
            formed = (formed, rest.formed);
          }

          one_of : (e : Held) → Among e (new ∷ without p.slot left) → IsOneOf e.piece.slot slots
          one_of e (inl here) = subst (λ (x : Held). IsOneOf x.piece.slot slots) here each.0
          one_of e (inr later) = all_among (λ o. IsOneOf o.piece.slot slots) e (new ∷ os) each (others_carried e later)

    -- the entries after an offer
    abbrev Leaves : List Held → Type 0
    Leaves after = AreHeld (record { capacity = capacity; entries = after }) × Mirrors n (new ∷ os) after

    -- an offer with memory found keeps `Mirrors`
    pub put_mirrors : (slots : List Slot) → length slots ≤ capacity → AllByRecursion (λ o. IsOneOf o.piece.slot slots) (new ∷ os) → (room : Bool) → count_of (ended_so n room p es) ≡ 0
        → Leaves (put capacity n room p es)
    put_mirrors slots few each room = by (is_outranked n p left) refl (p.lifetime == 0) refl (room || has_slot p.slot left) refl
      where
        at : (a : Bool) → is_outranked n p left ≡ a → (b : Bool) → (p.lifetime == 0) ≡ b → (d : Bool) → count_of (ends_by a b d) ≡ 0 → Leaves (offered (ends_by a b d) capacity n p left)
        at true t b is d none = (facts.held, outranked_mirror t)
        at false f true is d none = (without_are_held capacity p.slot left facts.held, dead_mirror f is)
        at false f false is true none = (kept_are_held capacity new left formed facts.held, subst (Mirrors n (new ∷ os)) (sym (nothing_dropped f slots few each)) (front_mirror f))
        at false f false is false one = absurd (omega (arith, one))

        by : (a : Bool) → is_outranked n p left ≡ a → (b : Bool) → (p.lifetime == 0) ≡ b → (d : Bool) → (room || has_slot p.slot left) ≡ d → count_of (ended_so n room p es) ≡ 0 → Leaves (put capacity n room p es)
        by a is b is_b d is_d = subst (λ (o : Offered). count_of o ≡ 0 → Leaves (offered o capacity n p left)) (λ i. ends_by (sym is i) (sym is_b i) (sym is_d i)) (at a is b is_b d)

-- Offers keep recent pieces, and put a believed piece in front.
use Rattle.std.proofs.Common.{◌≡◌, ◌∙◌, ℕ, zero, suc, ◌+◌, ◌<◌, ◌≤◌, List, [], ◌∷◌, ◌++◌, length, take, Bool, true, false, cond, refl, sym, ap, subst, inl, inr, ◌⊎◌, arith}
use Rattle.std.specs.Prelude.{not, ◌==◌, ◌&&◌, ◌||◌, nat_lt, is_none}
use Rattle.std.specs.List.{list_any, AllByRecursion}
use Rattle.std.proofs.lemmas.Bool.{and_parts, and_right, not-true, not_from_false, false_from_ne_true, false≢true, true≢false, ltb-true, eqb-true}
use Rattle.dns_name.specs.Labels.{lowered}
use Rattle.suffix_routes.specs.Values.{Config}
use Rattle.trust_rank.specs.declared.slot.Slot.{Slot}
use Rattle.trust_rank.specs.Values.{Piece}
use Rattle.trust_rank.specs.Replacing.{is_name_error, takes_place_of}
use Rattle.record_cache.specs.Values.{Held}
use Rattle.record_cache.specs.Ageing.{is_alive, end_of}
use Rattle.record_cache.specs.Entries.{of_slot, has_slot, without, AreApart, AreHeld}
use Rattle.record_cache.specs.Offers.{outranks, is_outranked, offered}
use Rattle.record_cache.specs.declared.cache.Offered.{Offered}
use Rattle.record_cache.specs.declared.cache.Offered.TheVariants.{Kept, Outranked, NotKept, Unkept}
use Rattle.record_cache.proofs.CallerLemmas.{slots_decide, without_are_held}
use Rattle.negative_cache.specs.Entries.{denies}
use Rattle.negative_cache.specs.Showing.{shown}
use Rattle.negative_cache.proofs.CallerLemmas.{shown_is_replaced}
use Rattle.step_history.specs.CacheLaws.Replacing.{Replaces, AreOfOneSlot}
use Rattle.step_history.proofs.CacheLaws.CallerLemmas.{place_kept}
use Rattle.step_history.specs.Carried.{then_carried}
use Rattle.step_history.proofs.CallerLemmas.{then_carried-append}
use Rattle.alias_chains.specs.Offering.{shown_by, ended_so, put, count_of, put_all, unkept_of, held_at}
use Rattle.theorem_sound.specs.TheoremCache.Kept.{IsKept, CanBeKept}
use Rattle.theorem_sound.proofs.TheoremCache.CallerLemmas.{all_among, all_from, among_filtered, IsShown, shown_leaves, put_leaves, offers_keep}
use Rattle.theorem_use.specs.Use.{IsOneOf}
use Rattle.theorem_use.specs.Recent.{IsBelieved, StaysBelieved}
use Rattle.theorem_use.specs.Mirrors.{ComesAfter}
use Rattle.theorem_use.proofs.Standing.{IsFound, one_found}
use Rattle.theorem_use.proofs.Putting.{stays_higher, outranked_by}
use Rattle.theorem_use.proofs.Order.{behind_among, behind_filter, behind_take}

-- how an offer ends: outranked, without a lifetime, or with room or an old entry
abbrev ends_by : Bool → Bool → Bool → Offered
ends_by a b d = cond a Outranked (cond b NotKept (cond d Kept Unkept))

-- ---- an offer

module _ (c : Config) (capacity n : ℕ) (p : Piece) (offer : CanBeKept c p) (os es : List Held)
    (held : AreHeld (record { capacity = capacity; entries = es })) (all : AllByRecursion (IsKept c os n) es) (slots : List Slot) where
  abbrev left : List Held
  left = shown_by p es

  facts : IsShown capacity p es left
  facts = shown_leaves capacity p es held

  abbrev new : Held
  new = held_at n p

  -- the offer leaves the piece o after entries of these slots alone
  abbrev Leaves : Held → Offered → Type 0
  Leaves o end = ComesAfter slots o (offered end capacity n p left)

  -- ---- an entry in a place not taken by p

  module _ (few : length slots ≤ capacity) (mine : IsOneOf p.slot slots) (o : Held) (own : IsOneOf o.piece.slot slots) (alive : is_alive n o ≡ true)
      (free : takes_place_of p o.piece ≡ false) (behind : ComesAfter slots o es) where
    stays : ComesAfter slots o left
    stays = by (is_name_error p) refl
      where
        by : (b : Bool) → is_name_error p ≡ b → ComesAfter slots o (cond b es (shown p.owner p.slot.class es))
        by true error = behind
        by false set = behind_filter (λ e. not (denies p.owner p.slot.class e)) slots o es behind
            (not_from_false (denies p.owner p.slot.class o) (shown_is_replaced p o offer.formed set ∙ and_right (is_name_error o.piece) (takes_place_of p o.piece) free))

    -- if p is not outranked, o is of another slot
    other : is_outranked n p left ≡ false → of_slot p.slot o ≡ false
    other highest = false_from_ne_true (of_slot p.slot o) none
      where
        none : of_slot p.slot o ≡ true → ⊥
        none same =
            let higher = stays_higher capacity n p offer.formed es held o (behind_among slots o es behind) same free in
            false≢true (sym highest ∙ outranked_by capacity n p offer.formed es held o (behind_among slots o left stays) alive higher.0 same higher.1)

    rest : is_outranked n p left ≡ false → ComesAfter slots o (without p.slot left)
    rest highest = behind_filter (λ x. not (of_slot p.slot x)) slots o left stays (not_from_false (of_slot p.slot o) (other highest))

    apart : AreApart (new ∷ without p.slot left)
    apart = (
      all_from (λ e. of_slot p.slot e ≡ false) (without p.slot left) (λ e among. not-true (of_slot p.slot e) (among_filtered (λ x. not (of_slot p.slot x)) e left among).1),
      (without_are_held capacity p.slot left facts.held).apart,
    )

    pub put_stays : (room : Bool) → ComesAfter slots o (put capacity n room p es)
    put_stays room = by (is_outranked n p left) refl (p.lifetime == 0) refl (room || has_slot p.slot left) refl
      where
        at : (a : Bool) → is_outranked n p left ≡ a → (b d : Bool) → Leaves o (ends_by a b d)
        at true t b d = stays
        at false f true d = rest f
        at false f false true = behind_take capacity slots o (new ∷ without p.slot left) apart own few (inr (mine, rest f))
        at false f false false = stays

        by : (a : Bool) → is_outranked n p left ≡ a → (b : Bool) → (p.lifetime == 0) ≡ b → (d : Bool) → (room || has_slot p.slot left) ≡ d → ComesAfter slots o (put capacity n room p es)
        by a is b is_b d is_d = subst (Leaves o) (λ i. ends_by (sym is i) (sym is_b i) (sym is_d i)) (at a is b d)

  -- ---- p itself

  module _ (alive : is_alive n new ≡ true) (believed : IsBelieved new os) where
    highest : is_outranked n p left ≡ false
    highest = false_from_ne_true (is_outranked n p left) none
      where
        none : is_outranked n p left ≡ true → ⊥
        none outranked = by believed
          where
            parts : (not (is_name_error p) ≡ true) × (list_any (outranks n p) left ≡ true)
            parts = and_parts (not (is_name_error p)) (list_any (outranks n p) left) outranked

            above : IsFound (outranks n p) left
            above = one_found (outranks n p) left parts.1

            outer : (of_slot p.slot above.one ≡ true) × ((is_alive n above.one && nat_lt p.rank above.one.piece.rank) ≡ true)
            outer = and_parts (of_slot p.slot above.one) (is_alive n above.one && nat_lt p.rank above.one.piece.rank) above.passes

            inner : (is_alive n above.one ≡ true) × (nat_lt p.rank above.one.piece.rank ≡ true)
            inner = and_parts (is_alive n above.one) (nat_lt p.rank above.one.piece.rank) outer.1

            same : p.slot ≡ above.one.piece.slot
            same = (slots_decide p.slot above.one.piece.slot).0 outer.0

            one : AreOfOneSlot above.one.piece.slot p.slot
            one = record { name = sym (ap (λ (s : Slot). lowered s.key) same); class = sym (ap (λ (s : Slot). s.class) same); kind = sym (ap (λ (s : Slot). s.kind) same) }

            by : IsBelieved new os → ⊥
            by (inl none) = true≢false (sym (ap is_none none) ∙ not-true (is_name_error p) parts.0)
            by (inr each) =
                let was = all_among (IsKept c os n) above.one es all (facts.was above.one above.among) in
                let low = each above.one was.not_replaced one (ltb-true n (end_of above.one) inner.0) in
                let high = ltb-true p.rank above.one.piece.rank inner.1 in
                omega (arith, low, high)

    lasts : (p.lifetime == 0) ≡ false
    lasts = false_from_ne_true (p.lifetime == 0) none
      where
        none : (p.lifetime == 0) ≡ true → ⊥
        none t = let zero = eqb-true p.lifetime 0 t in let ends = ltb-true n (end_of new) alive in omega (arith, zero, ends)

    first : (most : ℕ) → 0 < most → ComesAfter slots new (take most (new ∷ without p.slot left))
    first zero some = absurd (omega (arith, some))
    first (suc most) some = inl refl

    pub put_comes : (room : Bool) → count_of (ended_so n room p es) ≡ 0 → ComesAfter slots new (put capacity n room p es)
    put_comes room = by (is_outranked n p left) refl (p.lifetime == 0) refl (room || has_slot p.slot left) refl
      where
        at : (a : Bool) → is_outranked n p left ≡ a → (b : Bool) → (p.lifetime == 0) ≡ b → (d : Bool) → count_of (ends_by a b d) ≡ 0 → Leaves new (ends_by a b d)
        at true t b is d none = absurd (true≢false (sym t ∙ highest))
        at false f true is d none = absurd (true≢false (sym is ∙ lasts))
        at false f false is true none = first capacity held.some
        at false f false is false one = absurd (omega (arith, one))

        by : (a : Bool) → is_outranked n p left ≡ a → (b : Bool) → (p.lifetime == 0) ≡ b → (d : Bool) → (room || has_slot p.slot left) ≡ d → count_of (ended_so n room p es) ≡ 0 → ComesAfter slots new (put capacity n room p es)
        by a is b is_b d is_d = subst (λ (end : Offered). count_of end ≡ 0 → Leaves new end) (λ i. ends_by (sym is i) (sym is_b i) (sym is_d i)) (at a is b is_b d)

-- ---- the offers of a reply

-- no piece in the list takes the place of o
abbrev pub LeavePlace : Held → List Held → Type 0
LeavePlace o xs = AllByRecursion (λ x. Replaces x.piece o.piece → ⊥) xs

-- the entries stay kept
pub offers_kept : (c : Config) (capacity n : ℕ) (older es : List Held) (rooms : List Bool) (ps : List Piece) → AllByRecursion (CanBeKept c) ps
    → AreHeld (record { capacity = capacity; entries = es }) → AllByRecursion (IsKept c older n) es
    → AllByRecursion (IsKept c (then_carried n ps [] ++ older) n) (put_all capacity n rooms ps es)
offers_kept c capacity n older es rooms ps offers held all =
    subst (λ (os : List Held). AllByRecursion (IsKept c os n) (put_all capacity n rooms ps es)) (then_carried-append n ps [] older)
    (offers_keep capacity n (CanBeKept c) Keeps (λ room p os entries k offer h. put_leaves c capacity n p offer os entries h.0 h.1 room) rooms ps older es 0 offers (held, all)).1
  where
    Keeps : List Held → List Held → ℕ → Type 0
    Keeps os entries k = AreHeld (record { capacity = capacity; entries = entries }) × AllByRecursion (IsKept c os n) entries

module _ (c : Config) (capacity n : ℕ) (older es : List Held) (slots : List Slot) (few : length slots ≤ capacity) (o : Held) (own : IsOneOf o.piece.slot slots)
    (alive : is_alive n o ≡ true) where
  -- o was carried by the reply, believed and kept; or o was after entries of these slots alone
  -- before, and keeps its place
  abbrev pub ComesOrStays : List Held → ℕ → Type 0
  ComesOrStays newer k = ((k ≡ 0) × StaysBelieved o newer older) ⊎ (ComesAfter slots o es × LeavePlace o newer)

  abbrev Fits : Piece → Type 0
  Fits p = CanBeKept c p × IsOneOf p.slot slots

  abbrev Offers : List Held → List Held → ℕ → Type 0
  Offers newer entries k =
      AreHeld (record { capacity = capacity; entries = entries }) × AllByRecursion (IsKept c (newer ++ older) n) entries
      × (ComesOrStays newer k → ComesAfter slots o entries)

  one : (room : Bool) (p : Piece) (newer entries : List Held) (k : ℕ) → Fits p → Offers newer entries k → Offers (held_at n p ∷ newer) (put capacity n room p entries) (k + count_of (ended_so n room p entries))
  one room p newer entries k fits was = (leaves.0, leaves.1, next)
    where
      leaves : AreHeld (record { capacity = capacity; entries = put capacity n room p entries }) × AllByRecursion (IsKept c (held_at n p ∷ (newer ++ older)) n) (put capacity n room p entries)
      leaves = put_leaves c capacity n p fits.0 (newer ++ older) entries was.0 was.1 room

      stays : ComesOrStays newer k → (Replaces p o.piece → ⊥) → ComesAfter slots o (put capacity n room p entries)
      stays before keeps = put_stays c capacity n p fits.0 (newer ++ older) entries was.0 was.1 slots few fits.1 o own alive (place_kept p o.piece keeps) (was.2 before) room

      next : ComesOrStays (held_at n p ∷ newer) (k + count_of (ended_so n room p entries)) → ComesAfter slots o (put capacity n room p entries)
      next (inl (none, inl (same, believed))) =
          subst (λ (x : Held). ComesAfter slots x (put capacity n room p entries)) same
          (put_comes c capacity n p fits.0 (newer ++ older) entries was.0 was.1 slots
          (subst (λ (x : Held). is_alive n x ≡ true) (sym same) alive) (subst (λ (x : Held). IsBelieved x (newer ++ older)) (sym same) believed) room (omega (arith, none)))
      next (inl (none, inr (keeps, later))) = stays (inl (omega (arith, none), later)) keeps
      next (inr (before, each)) = stays (inr (before, each.1)) each.0

  pub offers_behind : (rooms : List Bool) (ps : List Piece) → AllByRecursion Fits ps → AreHeld (record { capacity = capacity; entries = es }) → AllByRecursion (IsKept c older n) es
      → ComesOrStays (then_carried n ps []) (unkept_of capacity n rooms ps es) → ComesAfter slots o (put_all capacity n rooms ps es)
  offers_behind rooms ps fits held all comes = (offers_keep capacity n Fits Offers one rooms ps [] es 0 fits (held, all, initial)).2 (from comes)
    where
      from : ComesOrStays (then_carried n ps []) (unkept_of capacity n rooms ps es) → ComesOrStays (then_carried n ps []) (0 + unkept_of capacity n rooms ps es)
      from (inl (none, stays)) = inl (omega (arith, none), stays)
      from (inr before) = inr before

      initial : ComesOrStays [] 0 → ComesAfter slots o es
      initial (inl (none, never)) = absurd never
      initial (inr (before, each)) = before

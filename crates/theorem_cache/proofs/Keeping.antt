-- The entries after promotions and offers.
use Rattle.std.proofs.Common.{◌≡◌, ℕ, zero, suc, ◌≤◌, List, [], ◌∷◌, take, filter, Bool, true, false, cond, refl, sym, ap, ◌∙◌, subst, inl, inr, arith, Option, Some}
use Rattle.std.specs.Prelude.{not, ◌==◌, ◌&&◌, ◌||◌, nat_lt, nat_le}
use Rattle.std.specs.List.{list_any, AllByRecursion}
use Rattle.std.specs.Option.{option_map_or}
use Rattle.std.proofs.lemmas.Bool.{cond-true, cond-false, and_parts, false≢true, true≢false, not-true, ltb-true, lt-leb}
use Rattle.dns_name.specs.Labels.{lowered}
use Rattle.dns_name.proofs.CallerLemmas.{lowered_again}
use Rattle.suffix_routes.specs.Values.{Config}
use Rattle.trust_rank.specs.declared.slot.Slot.{Slot}
use Rattle.trust_rank.specs.Values.{Piece}
use Rattle.trust_rank.specs.Replacing.{same_slot, is_name_error, shows_name, takes_place_of}
use Rattle.trust_rank.specs.Formed.{IsPiece}
use Rattle.record_cache.specs.Values.{Held}
use Rattle.record_cache.specs.Ageing.{is_alive}
use Rattle.record_cache.specs.Entries.{of_slot, entry_of, has_slot, without, promoted, AreApart, AreHeld}
use Rattle.record_cache.specs.Offers.{outranks, is_outranked, kept, offered}
use Rattle.record_cache.specs.Laws.{Among}
use Rattle.record_cache.specs.declared.cache.Offered.{Offered}
use Rattle.record_cache.specs.declared.cache.Offered.TheVariants.{Kept, Outranked, NotKept, Unkept}
use Rattle.record_cache.proofs.CallerLemmas.{slots_decide, slots_are_the_same, none_behind, any_is_entry, without_are_held, fewer_are_held, kept_are_held}
use Rattle.negative_cache.specs.Entries.{denies}
use Rattle.negative_cache.specs.Showing.{shown}
use Rattle.negative_cache.proofs.CallerLemmas.{shown_is_replaced}
use Rattle.step_history.proofs.CacheLaws.CallerLemmas.{keeps_place}
use Rattle.alias_chains.specs.LookingUp.{promoted_all}
use Rattle.alias_chains.specs.Offering.{shown_by, put, held_at}
use Rattle.theorem_cache.specs.Kept.{IsKept, CanBeKept}
use Rattle.step_table.proofs.CallerLemmas.{All-append, All-filter}
use Rattle.theorem_cache.proofs.LookingUp.{all_among}

-- ---- members of a list

pub all_from : (P : Held → Type 0) (es : List Held) → ((e : Held) → Among e es → P e) → AllByRecursion P es
all_from P [] each = tt
all_from P (e ∷ es) each = (each e (inl refl), all_from P es (λ x among. each x (inr among)))

pub among_filtered : (test : Held → Bool) (e : Held) (es : List Held) → Among e (filter test es) → Among e es × (test e ≡ true)
among_filtered test e [] h = absurd h
among_filtered test e (x ∷ es) h = by (among_filtered test e es) (test x) refl h
  where
    by : (Among e (filter test es) → Among e es × (test e ≡ true)) → (b : Bool) → test x ≡ b → Among e (cond b (x ∷ filter test es) (filter test es)) → Among e (x ∷ es) × (test e ≡ true)
    by rest true t (inl here) = (inl here, sym (ap test here) ∙ t)
    by rest true t (inr later) = (inr (rest later).0, (rest later).1)
    by rest false f later = (inr (rest later).0, (rest later).1)

pub among_first : (n : ℕ) (e : Held) (es : List Held) → Among e (take n es) → Among e es
among_first zero e es h = absurd h
among_first (suc n) e [] h = h
among_first (suc n) e (x ∷ es) (inl here) = inl here
among_first (suc n) e (x ∷ es) (inr later) = inr (among_first n e es later)

-- ---- promotions

promoted_all_of : (P : Held → Type 0) (slot : Slot) (es : List Held) → AllByRecursion P es → AllByRecursion P (promoted slot es)
promoted_all_of P slot es all = All-append P (filter (of_slot slot) es) (without slot es) (All-filter P (of_slot slot) es all) (All-filter P (λ e. not (of_slot slot e)) es all)

pub promotions_leave : (P : Held → Type 0) (used : List Slot) (es : List Held) → AllByRecursion P es → AllByRecursion P (promoted_all used es)
promotions_leave P [] es all = all
promotions_leave P (slot ∷ used) es all = promotions_leave P used (promoted slot es) (promoted_all_of P slot es all)

-- ---- an entry left by an offer is not replaced by the offer

pub own_key : (p : Piece) → IsPiece p → lowered p.slot.key ≡ p.slot.key
own_key p formed = ap lowered formed.key ∙ lowered_again p.owner ∙ sym formed.key

-- a piece of another slot, not denying the name shown by p, keeps its place
pub not_taken : (p : Piece) (e : Held) → IsPiece p → IsPiece e.piece → of_slot p.slot e ≡ false → (is_name_error p ≡ false → denies p.owner p.slot.class e ≡ false) → takes_place_of p e.piece ≡ false
not_taken p e formed formed_e other shown_over = by (is_name_error e.piece) refl (is_name_error p) refl
  where
    differ : same_slot p.slot e.piece.slot ≡ false
    differ = sym (slots_are_the_same p.slot e.piece.slot (own_key p formed) (own_key e.piece formed_e)) ∙ other

    by : (a : Bool) → is_name_error e.piece ≡ a → (b : Bool) → is_name_error p ≡ b → takes_place_of p e.piece ≡ false
    by true error false set =
        sym (ap (λ v. v && takes_place_of p e.piece) error) ∙ sym (shown_is_replaced p e formed set) ∙ shown_over set
    by true error true also =
        cond-true (is_name_error e.piece) _ _ error ∙ (λ i. differ i || shows_name p e.piece)
        ∙ ap (λ v. not v && (p.slot.class == e.piece.slot.class) && Rattle.dns_name.specs.Labels.is_under p.slot.key e.piece.slot.key) also
    by false set b is = cond-false (is_name_error e.piece) _ _ set ∙ ap (λ v. v && nat_le e.piece.rank p.rank) differ

-- ---- an offer

-- the entries left after a piece shows its name
pub record IsShown (capacity : ℕ) (p : Piece) (es left : List Held) : Type 0 where
  pub held : AreHeld (record { capacity = capacity; entries = left })
  pub was : (e : Held) → Among e left → Among e es
  pub over : (e : Held) → Among e left → is_name_error p ≡ false → denies p.owner p.slot.class e ≡ false

pub shown_leaves : (capacity : ℕ) (p : Piece) (es : List Held) → AreHeld (record { capacity = capacity; entries = es }) → IsShown capacity p es (shown_by p es)
shown_leaves capacity p es held = by (is_name_error p) refl
  where
    by : (b : Bool) → is_name_error p ≡ b → IsShown capacity p es (cond b es (shown p.owner p.slot.class es))
    by true error = record { held = held; was = λ e among. among; over = λ e among set. absurd (true≢false (sym error ∙ set)) }
    by false set = record {
      held = fewer_are_held capacity (λ e. not (denies p.owner p.slot.class e)) es held;
      was = λ e among. (among_filtered (λ x. not (denies p.owner p.slot.class x)) e es among).0;
      over = λ e among none. not-true _ (among_filtered (λ x. not (denies p.owner p.slot.class x)) e es among).1;
    }

-- the entry found for a slot is the member of this slot
pub entry_among : (slot : Slot) (e : Held) (es : List Held) → AreApart es → Among e es → of_slot slot e ≡ true → entry_of slot es ≡ Some e
entry_among slot e [] apart among is = absurd among
entry_among slot e (x ∷ es) apart among is = by (λ later. entry_among slot e es apart.1 later is) (of_slot slot x) refl among
  where
    by : (Among e es → entry_of slot es ≡ Some e) → (b : Bool) → of_slot slot x ≡ b → Among e (x ∷ es) → cond b (Some x) (entry_of slot es) ≡ Some e
    by rest true t (inl here) = ap Some here
    by rest true t (inr later) = absurd (true≢false (sym is ∙ all_among (λ y. of_slot slot y ≡ false) e es (none_behind slot x es apart t) later))
    by rest false f (inl here) = absurd (true≢false (sym is ∙ sym (ap (of_slot slot) here) ∙ f))
    by rest false f (inr later) = rest later

-- if no entry is of a slot, this entry is not
none_of : (slot : Slot) (e : Held) (xs : List Held) → list_any (of_slot slot) xs ≡ false → Among e xs → of_slot slot e ≡ false
none_of slot e [] none h = absurd h
none_of slot e (x ∷ xs) none h = by (none_of slot e xs) (of_slot slot x) refl none h
  where
    by : (list_any (of_slot slot) xs ≡ false → Among e xs → of_slot slot e ≡ false) → (v : Bool) → of_slot slot x ≡ v → (v || list_any (of_slot slot) xs) ≡ false → Among e (x ∷ xs) → of_slot slot e ≡ false
    by rest true t bad k = absurd (true≢false bad)
    by rest false f others (inl here) = sym (ap (of_slot slot) here) ∙ f
    by rest false f others (inr later) = rest others later

not_none : (k : ℕ) → (k == 0) ≡ false → 1 ≤ k
not_none zero e = absurd (true≢false e)
not_none (suc k) e = omega arith

-- how an offer ends: outranked, without a lifetime, or with room or an old entry
abbrev ends_by : Bool → Bool → Bool → Offered
ends_by a b d = cond a Outranked (cond b NotKept (cond d Kept Unkept))

module _ (c : Config) (capacity n : ℕ) (p : Piece) (offer : CanBeKept c p) (os es : List Held) (held : AreHeld (record { capacity = capacity; entries = es })) (all : AllByRecursion (IsKept c os n) es) where
  abbrev left : List Held
  left = shown_by p es

  facts : IsShown capacity p es left
  facts = shown_leaves capacity p es held

  abbrev new : Held
  new = held_at n p

  -- a remaining entry in a place not taken by p stays kept
  still : (e : Held) → Among e left → takes_place_of p e.piece ≡ false → IsKept c (new ∷ os) n e
  still e among free =
      let was = all_among (IsKept c os n) e es all (facts.was e among) in
      record { on_route = was.on_route; earlier = was.earlier; has_lifetime = was.has_lifetime; not_replaced = inr (keeps_place p e.piece free, was.not_replaced); writable = was.writable }

  other_slot : (e : Held) → Among e left → of_slot p.slot e ≡ false → IsKept c (new ∷ os) n e
  other_slot e among other = still e among (not_taken p e offer.formed (all_among (λ x. IsPiece x.piece) e left facts.held.formed among) other (facts.over e among))

  -- the new entry itself
  itself : (p.lifetime == 0) ≡ false → IsKept c (new ∷ os) n new
  itself some = record { on_route = offer.on_route; earlier = omega arith; has_lifetime = not_none p.lifetime some; not_replaced = inl refl; writable = offer.writable }

  -- the entries of other slots
  others : (e : Held) → Among e (without p.slot left) → IsKept c (new ∷ os) n e
  others e among = let part = among_filtered (λ x. not (of_slot p.slot x)) e left among in other_slot e part.0 (not-true _ part.1)

  -- if p is outranked, the remaining entries stay kept
  outranked_stays : is_outranked n p left ≡ true → (e : Held) → Among e left → IsKept c (new ∷ os) n e
  outranked_stays t e among = by (of_slot p.slot e) refl
    where
      parts : (not (is_name_error p) ≡ true) × (list_any (outranks n p) left ≡ true)
      parts = and_parts (not (is_name_error p)) (list_any (outranks n p) left) t

      above : Held → Bool
      above h = is_alive n h && nat_lt p.rank h.piece.rank

      of_entry : (o : Option Held) → entry_of p.slot left ≡ o → option_map_or above o false ≡ true → of_slot p.slot e ≡ true → nat_lt p.rank e.piece.rank ≡ true
      of_entry o is high own =
          let mine : o ≡ Some e = sym is ∙ entry_among p.slot e left facts.held.apart among own in
          (and_parts (is_alive n e) (nat_lt p.rank e.piece.rank) (subst (λ (x : Option Held). option_map_or above x false ≡ true) mine high)).1

      by : (b : Bool) → of_slot p.slot e ≡ b → IsKept c (new ∷ os) n e
      by false f = other_slot e among f
      by true own = still e among (free (is_name_error e.piece) refl)
        where
          higher : nat_lt p.rank e.piece.rank ≡ true
          higher = of_entry (entry_of p.slot left) refl (sym (any_is_entry p.slot above left facts.held.apart) ∙ parts.1) own

          low : nat_le e.piece.rank p.rank ≡ false
          low = lt-leb e.piece.rank p.rank (ltb-true p.rank e.piece.rank higher)

          one_kind : p.slot ≡ e.piece.slot
          one_kind = (slots_decide p.slot e.piece.slot).0 own

          free : (b : Bool) → is_name_error e.piece ≡ b → takes_place_of p e.piece ≡ false
          free true error = absurd (false≢true (sym (not-true _ parts.0) ∙ ap (λ (s : Slot). Rattle.std.specs.Prelude.is_none s.kind) one_kind ∙ error))
          free false set = cond-false (is_name_error e.piece) _ _ set ∙ ap (λ v. same_slot p.slot e.piece.slot && v) low ∙ and_false (same_slot p.slot e.piece.slot)
            where
              and_false : (v : Bool) → (v && false) ≡ false
              and_false true = refl
              and_false false = refl

  -- the entries left by an offer
  abbrev Leaves : List Held → Type 0
  Leaves after = AreHeld (record { capacity = capacity; entries = after }) × AllByRecursion (IsKept c (new ∷ os) n) after

  pub put_leaves : (room : Bool) → Leaves (put capacity n room p es)
  put_leaves room = by (is_outranked n p left) refl (p.lifetime == 0) refl (room || has_slot p.slot left) refl
    where
      at : (a : Bool) → is_outranked n p left ≡ a → (b : Bool) → (p.lifetime == 0) ≡ b → (d : Bool) → (room || has_slot p.slot left) ≡ d → Leaves (offered (ends_by a b d) capacity n p left)
      at true t b lasts d is = (facts.held, all_from (IsKept c (new ∷ os) n) left (outranked_stays t))
      at false f true lasts d is = (without_are_held capacity p.slot left facts.held, all_from (IsKept c (new ∷ os) n) (without p.slot left) others)
      at false f false lasts true is = (
        kept_are_held capacity new left offer.formed facts.held,
        all_from (IsKept c (new ∷ os) n) (kept capacity new left) (λ e among. front e (among_first capacity e (new ∷ without p.slot left) among)),
      )
        where
          front : (e : Held) → Among e (new ∷ without p.slot left) → IsKept c (new ∷ os) n e
          front e (inl here) = subst (IsKept c (new ∷ os) n) here (itself lasts)
          front e (inr later) = others e later
      at false f false lasts false is = (facts.held, all_from (IsKept c (new ∷ os) n) left (λ e among. other_slot e among (none e among)))
        where
          no_slot : has_slot p.slot left ≡ false
          no_slot = second room (has_slot p.slot left) is
            where
              second : (a b : Bool) → (a || b) ≡ false → b ≡ false
              second true b e = absurd (true≢false e)
              second false b e = e

          none : (e : Held) → Among e left → of_slot p.slot e ≡ false
          none e among = none_of p.slot e left no_slot among

      by : (a : Bool) → is_outranked n p left ≡ a → (b : Bool) → (p.lifetime == 0) ≡ b → (d : Bool) → (room || has_slot p.slot left) ≡ d → Leaves (put capacity n room p es)
      by a is b is_b d is_d = subst (λ (o : Offered). Leaves (offered o capacity n p left)) (λ i. ends_by (sym is i) (sym is_b i) (sym is_d i)) (at a is b is_b d is_d)

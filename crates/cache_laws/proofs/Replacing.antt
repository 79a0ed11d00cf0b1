-- The test by which a piece replaces a piece, and its meaning.
use Rattle.std.proofs.Common.{◌≡◌, ◌≢◌, ℕ, Bool, true, false, inl, inr, Option, None, Some, refl, sym, ap, ◌∙◌}
use Rattle.std.specs.Prelude.{◌==◌, ◌&&◌, ◌||◌, nat_le, not, is_none}
use Rattle.std.proofs.lemmas.Bool.{cond-true, cond-false, cases_Bool, false≢true, and_parts, and_from, or_left}
use Rattle.std.proofs.lemmas.Bool.{or_right}
use Rattle.std.proofs.lemmas.Bool.{eqb-true, eq-eqb, leb-true, le-leb}
use Rattle.dns_name.specs.Labels.{same, is_under}
use Rattle.dns_name.proofs.CallerLemmas.{same_decides, is_under_decides}
use Rattle.trust_rank.specs.declared.slot.Slot.{Slot}
use Rattle.trust_rank.specs.Values.{Piece}
use Rattle.trust_rank.specs.Replacing.{same_kind, same_slot, is_name_error, shows_name, takes_place_of}
use Rattle.cache_laws.specs.Replacing.{AreOfOneSlot, ShowsTheName, Replaces, ReplacesExactly}

-- ---- slots

kinds_are : (a b : Option ℕ) → same_kind a b ≡ true → a ≡ b
kinds_are None None e = refl
kinds_are None (Some b) e = absurd (false≢true e)
kinds_are (Some a) None e = absurd (false≢true e)
kinds_are (Some a) (Some b) e = ap Some (eqb-true a b e)

kinds_test : (a b : Option ℕ) → a ≡ b → same_kind a b ≡ true
kinds_test None None e = refl
kinds_test None (Some b) e = absurd (cc)
kinds_test (Some a) None e = absurd (cc)
kinds_test (Some a) (Some b) e = eq-eqb a b (let one : a ≡ b = cc in one)

pub one_slot : (a b : Slot) → same_slot a b ≡ true → AreOfOneSlot a b
one_slot a b e =
    let all = and_parts (same a.key b.key && (a.class == b.class)) (same_kind a.kind b.kind) e in
    let both = and_parts (same a.key b.key) (a.class == b.class) all.0 in
    record {
      name = (same_decides a.key b.key).0 both.0;
      class = eqb-true a.class b.class both.1;
      kind = kinds_are a.kind b.kind all.1;
    }

pub slot_test : (a b : Slot) → AreOfOneSlot a b → same_slot a b ≡ true
slot_test a b h =
    and_from (same a.key b.key && (a.class == b.class)) (same_kind a.kind b.kind)
    (and_from (same a.key b.key) (a.class == b.class) ((same_decides a.key b.key).1 h.name)
    (eq-eqb a.class b.class h.class)) (kinds_test a.kind b.kind h.kind)

-- ---- name errors

has_no_type : (p : Piece) → is_name_error p ≡ true → p.slot.kind ≡ None
has_no_type p e = by p.slot.kind e
  where
    by : (kind : Option ℕ) → is_none kind ≡ true → kind ≡ None
    by None e = refl
    by (Some kind) e = absurd (false≢true e)

has_a_type : (p : Piece) → is_name_error p ≡ false → p.slot.kind ≢ None
has_a_type p e is = false≢true (sym e ∙ ap is_none is)

error_test : (p : Piece) → p.slot.kind ≡ None → is_name_error p ≡ true
error_test p is = ap is_none is

typed_test : (p : Piece) → p.slot.kind ≢ None → is_name_error p ≡ false
typed_test p typed = elim (cases_Bool (is_name_error p)) [
  | inl is ↦ absurd (typed (has_no_type p is))
  | inr isnt ↦ isnt
]

not_is : (b : Bool) → not b ≡ true → b ≡ false
not_is true e = sym e
not_is false e = refl

shows : (q p : Piece) → p.slot.kind ≡ None → shows_name q p ≡ true → ShowsTheName q p
shows q p whole e =
    let all = and_parts (not (is_name_error q) && (q.slot.class == p.slot.class)) (is_under q.slot.key p.slot.key) e in
    let both = and_parts (not (is_name_error q)) (q.slot.class == p.slot.class) all.0 in
    record {
      whole = whole;
      typed = has_a_type q (not_is (is_name_error q) both.0);
      class = eqb-true q.slot.class p.slot.class both.1;
      under = (is_under_decides q.slot.key p.slot.key).0 all.1;
    }

shows_test : (q p : Piece) → ShowsTheName q p → shows_name q p ≡ true
shows_test q p h =
    and_from (not (is_name_error q) && (q.slot.class == p.slot.class)) (is_under q.slot.key p.slot.key)
    (and_from (not (is_name_error q)) (q.slot.class == p.slot.class) (ap not (typed_test q h.typed))
    (eq-eqb q.slot.class p.slot.class h.class)) ((is_under_decides q.slot.key p.slot.key).1 h.under)

-- ---- the test

-- for a name error, and for any other piece
of_error : (q p : Piece) → p.slot.kind ≡ None → (same_slot q.slot p.slot || shows_name q p) ≡ true → Replaces q p
of_error q p whole e = elim (cases_Bool (same_slot q.slot p.slot)) [
  | inl is ↦ inr (inl (record { whole = whole; slot = one_slot q.slot p.slot is }))
  | inr isnt ↦ inr (inr (shows q p whole (second (same_slot q.slot p.slot) (shows_name q p) isnt e)))
]
  where
    second : (a b : Bool) → a ≡ false → (a || b) ≡ true → b ≡ true
    second true b f t = absurd (false≢true (sym f))
    second false b f t = t

of_other : (q p : Piece) → p.slot.kind ≢ None → (same_slot q.slot p.slot && nat_le p.rank q.rank) ≡ true
    → Replaces q p
of_other q p typed e = let both = and_parts (same_slot q.slot p.slot) (nat_le p.rank q.rank) e in
    inl (record { typed = typed; slot = one_slot q.slot p.slot both.0; rank = leb-true p.rank q.rank both.1 })

replaces : (q p : Piece) → takes_place_of q p ≡ true → Replaces q p
replaces q p e = elim (cases_Bool (is_name_error p)) [
  | inl is ↦ of_error q p (has_no_type p is) (sym (cond-true (is_name_error p)
      (same_slot q.slot p.slot || shows_name q p) (same_slot q.slot p.slot && nat_le p.rank q.rank) is) ∙ e)
  | inr isnt ↦ of_other q p (has_a_type p isnt) (sym (cond-false (is_name_error p)
      (same_slot q.slot p.slot || shows_name q p) (same_slot q.slot p.slot && nat_le p.rank q.rank) isnt) ∙ e)
]

replaces_test : (q p : Piece) → Replaces q p → takes_place_of q p ≡ true
replaces_test q p (inl h) =
    cond-false (is_name_error p) (same_slot q.slot p.slot || shows_name q p)
    (same_slot q.slot p.slot && nat_le p.rank q.rank) (typed_test p h.typed)
    ∙ and_from (same_slot q.slot p.slot) (nat_le p.rank q.rank) (slot_test q.slot p.slot h.slot)
    (le-leb p.rank q.rank h.rank)
replaces_test q p (inr (inl h)) =
    cond-true (is_name_error p) (same_slot q.slot p.slot || shows_name q p)
    (same_slot q.slot p.slot && nat_le p.rank q.rank) (error_test p h.whole)
    ∙ or_left (same_slot q.slot p.slot) (shows_name q p) (slot_test q.slot p.slot h.slot)
replaces_test q p (inr (inr h)) =
    cond-true (is_name_error p) (same_slot q.slot p.slot || shows_name q p)
    (same_slot q.slot p.slot && nat_le p.rank q.rank) (error_test p h.whole)
    ∙ or_right (same_slot q.slot p.slot) (shows_name q p) (shows_test q p h)

pub replaces_exactly : ReplacesExactly
replaces_exactly = record { only = replaces; each = replaces_test }

pub keeps_place : (q p : Piece) → takes_place_of q p ≡ false → Replaces q p → ⊥
keeps_place q p e h = false≢true (sym e ∙ replaces_test q p h)

pub place_kept : (q p : Piece) → (Replaces q p → ⊥) → takes_place_of q p ≡ false
place_kept q p none = elim (cases_Bool (takes_place_of q p)) [
  | inl is ↦ absurd (none (replaces q p is))
  | inr isnt ↦ isnt
]

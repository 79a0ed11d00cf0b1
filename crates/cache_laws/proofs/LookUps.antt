-- The finding of a look-up, in order.
use Rattle.std.proofs.Common.{◌≡◌, ℕ, ◌≤◌, Bool, true, false, cond, inl, inr, List, [], ◌∷◌}
use Rattle.std.proofs.Common.{length, filter, find, Option, None, Some, refl, sym, ap, ◌∙◌, subst, arith}
use Rattle.std.specs.Prelude.{◌<◌, ◌+◌, ◌*◌, ◌==◌, ◌&&◌, nat_lt, nat_eq, is_none}
use Rattle.std.specs.List.{AllByRecursion}
use Rattle.std.specs.Option.{option_eq}
use Rattle.std.specs.Cmp.Lexicographic.{pointwise}
use Rattle.std.proofs.lemmas.Bool.{cond-true, cond-false, cond_both, and_parts, and_from, eqb-true}
use Rattle.std.proofs.lemmas.Bool.{eq-eqb, ne_eqb, false≢true, both_ways}
use Rattle.std.proofs.lemmas.Bool.Decides.{nat_tests}
use Rattle.dns_name.specs.Labels.{lowered, same, is_under, IsSame}
use Rattle.dns_name.proofs.CallerLemmas.{same_decides, lowered_again, is_under_decides}
use Rattle.dns_message.specs.Values.{Question, Record}
use Rattle.suffix_routes.specs.Values.{Route}
use Rattle.suffix_routes.specs.Routes.{route_of}
use Rattle.trust_rank.specs.declared.slot.Slot.{Slot}
use Rattle.trust_rank.specs.Values.{Body, rows as set_rows, no_data as set_no_data, denied as set_denied}
use Rattle.trust_rank.specs.Formed.{IsPiece}
use Rattle.trust_rank.specs.Replacing.{same_kind}
use Rattle.record_cache.specs.Values.{Held}
use Rattle.record_cache.specs.Ageing.{is_alive}
use Rattle.record_cache.specs.Entries.{of_slot, AreApart}
use Rattle.record_cache.specs.Laws.{Among}
use Rattle.negative_cache.specs.Values.{Found, rows, alias, no_data, denied, miss}
use Rattle.negative_cache.specs.Entries.{are_rows, tells_no_data, is_set, is_no_data, denies}
use Rattle.negative_cache.specs.Finding.{is_of_type, is_on_route, set_for, alias_for, no_data_for, is_denial_for}
use Rattle.negative_cache.specs.Finding.{nearer, nearest, denial_for, found_or}
use Rattle.negative_cache.specs.Laws.{IsTyped}
use Rattle.cache_laws.specs.LookUps.{IsLivingOf, IsNameError, IsAskedSet, IsAskedAlias, IsAskedNoData, HasNone}
use Rattle.cache_laws.specs.LookUps.{FindsInOrder, LookUpsFindInOrder}

-- ---- items found by a test

found_one : (p : Held → Bool) (es : List Held) (h : Held) → find p es ≡ Some h → Among h es × (p h ≡ true)
found_one p [] h is = absurd (cc)
found_one p (e ∷ es) h is = (elim (p e) as (λ b. p e ≡ b → cond b (Some e) (find p es) ≡ Some h
    → Among h (e ∷ es) × (p h ≡ true)) [
      | true ↦ λ passes same. let e_is : e ≡ h = cc in (inl e_is, subst (λ (x : Held). p x ≡ true) e_is passes)
      | false ↦ λ fails same. let r = found_one p es h same in (inr r.0, r.1)
    ]) refl is

not_found : (p : Held → Bool) (es : List Held) (h : Held) → find p es ≡ None → Among h es → p h ≡ true → ⊥
not_found p [] h is among passes = absurd among
not_found p (e ∷ es) h is among passes = (elim (p e) as (λ b. p e ≡ b → cond b (Some e) (find p es) ≡ None → ⊥) [
  | true ↦ λ _ none. absurd (cc)
  | false ↦ λ fails none. elim among [
    | inl e_is ↦ both_ways (p e) fails (subst (λ (x : Held). p x ≡ true) (sym e_is) passes)
    | inr rest ↦ not_found p es h none rest passes
  ]
]) refl is

one_passes : (p : Held → Bool) (es : List Held) (h : Held) → Among h (filter p es) → Among h es × (p h ≡ true)
one_passes p [] h among = absurd among
one_passes p (e ∷ es) h among = (elim (p e) as (λ b. p e ≡ b → Among h (cond b (e ∷ filter p es) (filter p es))
    → Among h (e ∷ es) × (p h ≡ true)) [
      | true ↦ λ passes there. elim there [
        | inl same_ ↦ (inl same_, subst (λ (x : Held). p x ≡ true) same_ passes)
        | inr rest ↦ let r = one_passes p es h rest in (inr r.0, r.1)
      ]
      | false ↦ λ fails there. let r = one_passes p es h there in (inr r.0, r.1)
    ]) refl among

passes_there : (p : Held → Bool) (es : List Held) (h : Held) → Among h es → p h ≡ true → Among h (filter p es)
passes_there p [] h among passes = absurd among
passes_there p (e ∷ es) h (inl is) passes =
    subst (Among h) (sym (cond-true (p e) (e ∷ filter p es) (filter p es)
    (subst (λ (x : Held). p x ≡ true) (sym is) passes))) (inl is)
passes_there p (e ∷ es) h (inr rest) passes =
    cond_both (p e) (e ∷ filter p es) (filter p es) (Among h) (λ _. inr (passes_there p es h rest passes))
    (λ _. passes_there p es h rest passes)

-- ---- a single entry of each slot

record Typed (q : Question) (kind : ℕ) (slot : Slot) : Type 0 where
  pub name : IsSame q.name slot.key
  pub class : q.class ≡ slot.class
  pub kind_is : slot.kind ≡ Some kind

kind_of : (kind : ℕ) (o : Option ℕ) → same_kind (Some kind) o ≡ true → o ≡ Some kind
kind_of kind None e = absurd (false≢true e)
kind_of kind (Some other) e = ap Some (sym (eqb-true kind other e))

typed : (q : Question) (kind : ℕ) (h : Held) → is_of_type q kind h ≡ true → Typed q kind h.piece.slot
typed q kind h e =
    let slot : Slot = h.piece.slot in
    let all = and_parts (same q.name slot.key && (q.class == slot.class)) (same_kind (Some kind) slot.kind) e in
    let both = and_parts (same q.name slot.key) (q.class == slot.class) all.0 in
    record {
      name = (same_decides q.name slot.key).0 both.0;
      class = eqb-true q.class slot.class both.1;
      kind_is = kind_of kind slot.kind all.1;
    }

key_is : (h : Held) → IsPiece h.piece → lowered h.piece.slot.key ≡ h.piece.slot.key
key_is h piece = ap lowered piece.key ∙ lowered_again h.piece.owner ∙ sym piece.key

one_slot : (q : Question) (kind : ℕ) (a b : Held) → IsPiece a.piece → IsPiece b.piece → Typed q kind a.piece.slot
    → Typed q kind b.piece.slot → of_slot a.piece.slot b ≡ true
one_slot q kind a b is_a is_b s t =
    let x : Slot = a.piece.slot in
    let y : Slot = b.piece.slot in
    let keys : pointwise (pointwise nat_eq) x.key y.key ≡ true =
    (λ i. pointwise (pointwise nat_eq) (sym (key_is a is_a) i) (sym (key_is b is_b) i))
    ∙ (same_decides x.key y.key).1 (sym s.name ∙ t.name) in
    and_from (pointwise (pointwise nat_eq) x.key y.key && (x.class == y.class)) (same_kind x.kind y.kind)
    (and_from (pointwise (pointwise nat_eq) x.key y.key) (x.class == y.class) keys
    (eq-eqb x.class y.class (sym s.class ∙ t.class)))
    ((λ i. same_kind (s.kind_is i) (t.kind_is i)) ∙ eq-eqb kind kind refl)

all_among : (P : Held → Type 0) (es : List Held) (h : Held) → AllByRecursion P es → Among h es → P h
all_among P [] h all among = absurd among
all_among P (e ∷ es) h all (inl is) = subst P is all.0
all_among P (e ∷ es) h all (inr rest) = all_among P es h all.1 rest

apart : (es : List Held) (a b : Held) → AreApart es → Among a es → Among b es → of_slot a.piece.slot b ≡ true
    → of_slot b.piece.slot a ≡ true → a ≡ b
apart [] a b all in_a in_b ab ba = absurd in_a
apart (e ∷ es) a b all (inl a_is) (inl b_is) ab ba = sym a_is ∙ b_is
apart (e ∷ es) a b all (inl a_is) (inr in_b) ab ba =
    absurd (both_ways (of_slot a.piece.slot b) (subst (λ (x : Held). of_slot x.piece.slot b ≡ false) a_is
    (all_among (λ (x : Held). of_slot e.piece.slot x ≡ false) es b all.0 in_b)) ab)
apart (e ∷ es) a b all (inr in_a) (inl b_is) ab ba =
    absurd (both_ways (of_slot b.piece.slot a) (subst (λ (x : Held). of_slot x.piece.slot a ≡ false) b_is
    (all_among (λ (x : Held). of_slot e.piece.slot x ≡ false) es a all.0 in_a)) ba)
apart (e ∷ es) a b all (inr in_a) (inr in_b) ab ba = apart es a b all.1 in_a in_b ab ba

-- two entries of a type are equal
record Kept (entries : List Held) : Type 0 where
  pub apart_are : AreApart entries
  pub formed : AllByRecursion (λ (h : Held). IsPiece h.piece) entries

only_entry : (entries : List Held) (q : Question) (kind : ℕ) (a b : Held) → Kept entries → Among a entries
    → Among b entries → is_of_type q kind a ≡ true → is_of_type q kind b ≡ true → a ≡ b
only_entry entries q kind a b kept in_a in_b s t =
    let is_a : IsPiece a.piece = all_among (λ (h : Held). IsPiece h.piece) entries a kept.formed in_a in
    let is_b : IsPiece b.piece = all_among (λ (h : Held). IsPiece h.piece) entries b kept.formed in_b in
    apart entries a b kept.apart_are in_a in_b (one_slot q kind a b is_a is_b (typed q kind a s) (typed q kind b t))
    (one_slot q kind b a is_b is_a (typed q kind b t) (typed q kind a s))

-- ---- living entries of a type passing a test

abbrev living_of : ℕ → Question → ℕ → (Held → Bool) → Held → Bool
living_of moment q kind test h = is_of_type q kind h && (is_alive moment h && test h)

record Passes (moment : ℕ) (entries : List Held) (q : Question) (kind : ℕ) (test : Held → Bool)
    (h : Held) : Type 0 where
  pub typed_is : IsTyped moment entries q kind h
  pub test_is : test h ≡ true

passes : (moment : ℕ) (entries : List Held) (q : Question) (kind : ℕ) (test : Held → Bool) (h : Held)
    → find (living_of moment q kind test) entries ≡ Some h → Passes moment entries q kind test h
passes moment entries q kind test h is =
    let there = found_one (living_of moment q kind test) entries h is in
    let both = and_parts (is_of_type q kind h) (is_alive moment h && test h) there.1 in
    let rest = and_parts (is_alive moment h) (test h) both.1 in
    record {
      typed_is = record { living = record { among = there.0; alive = rest.0 }; slot = both.0 };
      test_is = rest.1;
    }

passes_test : (moment : ℕ) (entries : List Held) (q : Question) (kind : ℕ) (test : Held → Bool) (h : Held)
    → Passes moment entries q kind test h → living_of moment q kind test h ≡ true
passes_test moment entries q kind test h p =
    and_from (is_of_type q kind h) (is_alive moment h && test h) p.typed_is.slot
    (and_from (is_alive moment h) (test h) p.typed_is.living.alive p.test_is)

is_found : (moment : ℕ) (entries : List Held) (q : Question) (kind : ℕ) (test : Held → Bool) (h : Held) → Kept entries
    → Passes moment entries q kind test h → find (living_of moment q kind test) entries ≡ Some h
is_found moment entries q kind test h kept p = (elim (find (living_of moment q kind test) entries) as
    (λ o. find (living_of moment q kind test) entries ≡ o → o ≡ Some h) [
      | None ↦ λ is. absurd (not_found (living_of moment q kind test) entries h is p.typed_is.living.among
          (passes_test moment entries q kind test h p))
      | Some other ↦ λ is.
          let o : Passes moment entries q kind test other = passes moment entries q kind test other is in
          ap Some (only_entry entries q kind other h kept o.typed_is.living.among p.typed_is.living.among
          o.typed_is.slot p.typed_is.slot)
    ]) refl

none_found : (moment : ℕ) (entries : List Held) (q : Question) (kind : ℕ) (test : Held → Bool)
    → ((h : Held) → Passes moment entries q kind test h → ⊥) → find (living_of moment q kind test) entries ≡ None
none_found moment entries q kind test none = (elim (find (living_of moment q kind test) entries) as
    (λ o. find (living_of moment q kind test) entries ≡ o → o ≡ None) [
      | None ↦ λ is. refl
      | Some other ↦ λ is. absurd (none other (passes moment entries q kind test other is))
    ]) refl

-- ---- properties of a living entry

less : (a b : ℕ) → nat_lt a b ≡ true → a < b
less a b h = grind (arith, nat_tests)

is_less : (a b : ℕ) → a < b → nat_lt a b ≡ true
is_less a b h = grind (arith, nat_tests)

typed_of : (moment : ℕ) (entries : List Held) (q : Question) (kind : ℕ) (h : Held) → IsLivingOf moment entries q kind h
    → IsTyped moment entries q kind h
typed_of moment entries q kind h is =
    let slot : Slot = h.piece.slot in
    let of_kind : same_kind (Some kind) slot.kind ≡ true =
    (λ i. same_kind (Some kind) (is.kind_is i)) ∙ eq-eqb kind kind refl in
    record {
      living = record { among = is.among; alive = is_less moment (h.accepted + 1000 * h.piece.lifetime) is.alive };
      slot = and_from (same q.name slot.key && (q.class == slot.class)) (same_kind (Some kind) slot.kind)
          (and_from (same q.name slot.key) (q.class == slot.class) ((same_decides q.name slot.key).1 is.name)
          (eq-eqb q.class slot.class is.class)) of_kind;
    }

of_typed : (moment : ℕ) (entries : List Held) (q : Question) (kind : ℕ) (h : Held) → IsTyped moment entries q kind h
    → IsLivingOf moment entries q kind h
of_typed moment entries q kind h is = let t : Typed q kind h.piece.slot = typed q kind h is.slot in
    record {
      among = is.living.among;
      alive = less moment (h.accepted + 1000 * h.piece.lifetime) is.living.alive;
      name = t.name;
      class = t.class;
      kind_is = t.kind_is;
    }

record RowsOf (body : Body) : Type 0 where
  pub each : List (List ℕ)
  pub body_is : body ≡ set_rows each

rows_of : (body : Body) → are_rows body ≡ true → RowsOf body
rows_of (set_rows each) e = record { each = each; body_is = refl }
rows_of (set_no_data soa) e = absurd (false≢true e)
rows_of (set_denied soa) e = absurd (false≢true e)

record NoDataOf (body : Body) : Type 0 where
  pub soa : Option Record
  pub body_is : body ≡ set_no_data soa

no_data_of : (body : Body) → tells_no_data body ≡ true → NoDataOf body
no_data_of (set_rows each) e = absurd (false≢true e)
no_data_of (set_no_data soa) e = record { soa = soa; body_is = refl }
no_data_of (set_denied soa) e = absurd (false≢true e)

-- ---- the first three

set_passes : (moment : ℕ) (entries : List Held) (q : Question) (h : Held) → IsAskedSet moment entries q h
    → Passes moment entries q q.kind is_set h
set_passes moment entries q h is =
    record { typed_is = typed_of moment entries q q.kind h is.living; test_is = ap are_rows is.body }

set_is : (moment : ℕ) (entries : List Held) (q : Question) (h : Held) → Kept entries → IsAskedSet moment entries q h
    → set_for moment entries q q.kind ≡ Some h
set_is moment entries q h kept is = is_found moment entries q q.kind is_set h kept (set_passes moment entries q h is)

no_set : (moment : ℕ) (entries : List Held) (q : Question) → HasNone (IsAskedSet moment entries q)
    → set_for moment entries q q.kind ≡ None
no_set moment entries q none = none_found moment entries q q.kind is_set
    (λ h p. let r : RowsOf h.piece.body = rows_of h.piece.body p.test_is in
    none h (record { living = of_typed moment entries q q.kind h p.typed_is; each = r.each; body = r.body_is }))

alias_passes : (moment : ℕ) (entries : List Held) (q : Question) (h : Held) → IsAskedAlias moment entries q h
    → Passes moment entries q 5 is_set h
alias_passes moment entries q h is =
    record { typed_is = typed_of moment entries q 5 h is.living; test_is = ap are_rows is.body }

alias_is : (moment : ℕ) (entries : List Held) (q : Question) (h : Held) → Kept entries
    → IsAskedAlias moment entries q h → alias_for moment entries q ≡ Some h
alias_is moment entries q h kept is =
    cond-false (q.kind == 5) None (set_for moment entries q 5) (ne_eqb q.kind 5 is.other)
    ∙ is_found moment entries q 5 is_set h kept (alias_passes moment entries q h is)

no_alias : (moment : ℕ) (entries : List Held) (q : Question) → HasNone (IsAskedAlias moment entries q)
    → alias_for moment entries q ≡ None
no_alias moment entries q none =
    cond_both (q.kind == 5) None (set_for moment entries q 5) (λ (o : Option Held). o ≡ None)
    (λ _. refl)
    (λ other. none_found moment entries q 5 is_set
    (λ h p. let r : RowsOf h.piece.body = rows_of h.piece.body p.test_is in
    none h (record {
      other = λ five. both_ways (q.kind == 5) other (eq-eqb q.kind 5 five);
      living = of_typed moment entries q 5 h p.typed_is;
      each = r.each;
      body = r.body_is;
    })))

no_data_passes : (moment : ℕ) (entries : List Held) (q : Question) (h : Held) → IsAskedNoData moment entries q h
    → Passes moment entries q q.kind is_no_data h
no_data_passes moment entries q h is =
    record { typed_is = typed_of moment entries q q.kind h is.living; test_is = ap tells_no_data is.body }

no_data_is : (moment : ℕ) (entries : List Held) (q : Question) (h : Held) → Kept entries
    → IsAskedNoData moment entries q h → no_data_for moment entries q ≡ Some h
no_data_is moment entries q h kept is =
    is_found moment entries q q.kind is_no_data h kept (no_data_passes moment entries q h is)

no_no_data : (moment : ℕ) (entries : List Held) (q : Question) → HasNone (IsAskedNoData moment entries q)
    → no_data_for moment entries q ≡ None
no_no_data moment entries q none = none_found moment entries q q.kind is_no_data
    (λ h p. let r : NoDataOf h.piece.body = no_data_of h.piece.body p.test_is in
    none h (record { living = of_typed moment entries q q.kind h p.typed_is; soa = r.soa; body = r.body_is }))

-- ---- the nearest name error

option_is : (a b : Option ℕ) → option_eq nat_eq a b ≡ true → a ≡ b
option_is None None e = refl
option_is None (Some b) e = absurd (false≢true e)
option_is (Some a) None e = absurd (false≢true e)
option_is (Some a) (Some b) e = ap Some (eqb-true a b e)

is_option : (a b : Option ℕ) → a ≡ b → option_eq nat_eq a b ≡ true
is_option a b e = subst (λ (o : Option ℕ). option_eq nat_eq a o ≡ true) e (own a)
  where
    own : (o : Option ℕ) → option_eq nat_eq o o ≡ true
    own None = refl
    own (Some n) = eq-eqb n n refl

none_kind : (kind : Option ℕ) → is_none kind ≡ true → kind ≡ None
none_kind None e = refl
none_kind (Some kind) e = absurd (false≢true e)

denial_is : (routes : List Route) (moment : ℕ) (entries : List Held) (q : Question) (h : Held) → Among h entries
    → is_denial_for routes moment q h ≡ true → IsNameError routes moment entries q h
denial_is routes moment entries q h among e =
    let slot : Slot = h.piece.slot in
    let all = and_parts (is_alive moment h && is_on_route routes q h) (denies q.name q.class h) e in
    let both = and_parts (is_alive moment h) (is_on_route routes q h) all.0 in
    let three = and_parts (is_none slot.kind && (q.class == slot.class)) (is_under q.name slot.key) all.1 in
    let two = and_parts (is_none slot.kind) (q.class == slot.class) three.0 in
    record {
      among = among;
      alive = less moment (h.accepted + 1000 * h.piece.lifetime) both.0;
      kind_is = none_kind slot.kind two.0;
      class = eqb-true q.class slot.class two.1;
      above = (is_under_decides q.name slot.key).0 three.1;
      route = option_is (route_of routes slot.key) (route_of routes q.name) both.1;
    }

is_denial : (routes : List Route) (moment : ℕ) (entries : List Held) (q : Question) (h : Held)
    → IsNameError routes moment entries q h → is_denial_for routes moment q h ≡ true
is_denial routes moment entries q h d =
    let slot : Slot = h.piece.slot in
    and_from (is_alive moment h && is_on_route routes q h) (denies q.name q.class h)
    (and_from (is_alive moment h) (is_on_route routes q h)
    (is_less moment (h.accepted + 1000 * h.piece.lifetime) d.alive)
    (is_option (route_of routes slot.key) (route_of routes q.name) d.route))
    (and_from (is_none slot.kind && (q.class == slot.class)) (is_under q.name slot.key)
    (and_from (is_none slot.kind) (q.class == slot.class) (ap is_none d.kind_is) (eq-eqb q.class slot.class d.class))
    ((is_under_decides q.name slot.key).1 d.above))

abbrev labels_of : Held → ℕ
labels_of h = length h.piece.slot.key

record Nearest (es : List Held) : Type 0 where
  pub h : Held
  pub is : nearest es ≡ Some h
  pub among : Among h es
  pub near : (other : Held) → Among other es → labels_of other ≤ labels_of h

less_is : (a b : ℕ) → nat_lt a b ≡ true → a ≤ b
less_is a b h = grind (arith, nat_tests)

not_less_is : (a b : ℕ) → nat_lt a b ≡ false → b ≤ a
not_less_is a b h = grind (arith, nat_tests)

nearest_there : (e : Held) (es : List Held) → Nearest (e ∷ es)
nearest_there e [] = record {
  h = e;
  is = refl;
  among = inl refl;
  near = λ other there. elim there [
    | inl same_ ↦ subst (λ (x : Held). labels_of x ≤ labels_of e) same_ (omega arith)
    | inr none ↦ absurd none
  ];
}
nearest_there e (f ∷ es) =
    let n : Nearest (f ∷ es) = nearest_there f es in
    let b : Bool = nat_lt (labels_of e) (labels_of n.h) in
    let x : Held = nearer e (Some n.h) in
    let first : labels_of e ≤ labels_of x = cond_both b n.h e (λ (y : Held). labels_of e ≤ labels_of y)
    (λ t. less_is (labels_of e) (labels_of n.h) t) (λ _. omega arith) in
    let second : labels_of n.h ≤ labels_of x = cond_both b n.h e (λ (y : Held). labels_of n.h ≤ labels_of y)
    (λ _. omega arith) (λ t. not_less_is (labels_of e) (labels_of n.h) t) in
    record {
      h = x;
      is = ap (λ (o : Option Held). Some (nearer e o)) n.is;
      among = cond_both b n.h e (λ (y : Held). Among y (e ∷ f ∷ es)) (λ _. inr n.among) (λ _. inl refl);
      near = λ other there. elim there [
        | inl same_ ↦ subst (λ (y : Held). labels_of y ≤ labels_of x) same_ first
        | inr rest ↦ omega (arith, n.near other rest, second)
      ];
    }

nearest_of : (es : List Held) (h : Held) → Among h es → Nearest es
nearest_of [] h among = absurd among
nearest_of (e ∷ es) h among = nearest_there e es

no_denial : (routes : List Route) (moment : ℕ) (entries : List Held) (q : Question)
    → HasNone (IsNameError routes moment entries q) → denial_for routes moment entries q ≡ None
no_denial routes moment entries q none = (elim (filter (is_denial_for routes moment q) entries) as
    (λ es. filter (is_denial_for routes moment q) entries ≡ es → nearest es ≡ None) [
      | [] ↦ λ is. refl
      | e ∷ es ↦ λ is.
          let there = one_passes (is_denial_for routes moment q) entries e (subst (Among e) (sym is) (inl refl)) in
          absurd (none e (denial_is routes moment entries q e there.0 there.1))
    ]) refl

-- ---- in order

in_order : (routes : List Route) (moment : ℕ) (entries : List Held) (q : Question) → Kept entries
    → FindsInOrder routes moment entries q
in_order routes moment entries q kept =
    let last : Option Held → Found = λ (o : Option Held). found_or denied o miss in
    let third : Option Held → Option Held → Found = λ (n o : Option Held). found_or no_data n (last o) in
    let second : Option Held → Option Held → Option Held
    → Found = λ (a n o : Option Held). found_or alias a (third n o) in
    let set : Option Held = set_for moment entries q q.kind in
    let a : Option Held = alias_for moment entries q in
    let n : Option Held = no_data_for moment entries q in
    let o : Option Held = denial_for routes moment entries q in
    record {
      set = λ h is. ap (λ (x : Option Held). found_or rows x (second a n o)) (set_is moment entries q h kept is);
      alias_next = λ h none is. ap (λ (x : Option Held). found_or rows x (second a n o))
          (no_set moment entries q none) ∙ ap (λ (x : Option Held). second x n o) (alias_is moment entries q h kept is);
      no_data_next = λ h none neither is.
          ap (λ (x : Option Held). found_or rows x (second a n o)) (no_set moment entries q none)
          ∙ ap (λ (x : Option Held). second x n o) (no_alias moment entries q neither)
          ∙ ap (λ (x : Option Held). third x o) (no_data_is moment entries q h kept is);
      denial_next = λ h none neither nor is.
          let test : Held → Bool = is_denial_for routes moment q in
          let near : Nearest (filter test entries) = nearest_of (filter test entries) h
          (passes_there test entries h is.among (is_denial routes moment entries q h is)) in
          let there = one_passes test entries near.h near.among in
          record {
            h = near.h;
            found_is =
                ap (λ (x : Option Held). found_or rows x (second a n o)) (no_set moment entries q none)
                ∙ ap (λ (x : Option Held). second x n o) (no_alias moment entries q neither)
                ∙ ap (λ (x : Option Held). third x o) (no_no_data moment entries q nor)
                ∙ ap last near.is;
            near = record {
              denial = denial_is routes moment entries q near.h there.0 there.1;
              nearest = λ other d. near.near other (passes_there test entries other d.among
                  (is_denial routes moment entries q other d));
            };
          };
      miss_last = λ none neither nor lacks.
          ap (λ (x : Option Held). found_or rows x (second a n o)) (no_set moment entries q none)
          ∙ ap (λ (x : Option Held). second x n o) (no_alias moment entries q neither)
          ∙ ap (λ (x : Option Held). third x o) (no_no_data moment entries q nor)
          ∙ ap last (no_denial routes moment entries q lacks);
    }

pub look_ups_find_in_order : LookUpsFindInOrder
look_ups_find_in_order routes moment capacity entries q held =
    in_order routes moment entries q (record { apart_are = held.apart; formed = held.formed })

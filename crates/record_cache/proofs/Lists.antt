-- Lists of entries of different slots.
use Rattle.std.proofs.Common.{◌≡◌, ℕ, zero, suc, ◌<◌, ◌≤◌, Bool, true, false, cond, ◌&&◌, ◌||◌, not, List, [], ◌∷◌, ◌++◌, length, filter, take, Option, None, Some, refl, sym, ap, subst, arith, length-take}
use Rattle.std.specs.List.{list_any, AllByRecursion}
use Rattle.std.specs.Option.{option_to_list, option_map_or}
use Rattle.trust_rank.specs.declared.slot.Slot.{Slot}
use Rattle.trust_rank.specs.Formed.{IsPiece}
use Rattle.record_cache.specs.Values.{Held}
use Rattle.record_cache.specs.Entries.{of_slot, entry_of, has_slot, without, promoted, AreApart, AreHeld}
use Rattle.record_cache.specs.Offers.{kept}
use Rattle.record_cache.proofs.Slots.{is_slot_decides}

-- ---- facts on lists

pub all_filter : {X : Type 0} (P : X → Type 0) (test : X → Bool) (xs : List X) → AllByRecursion P xs → AllByRecursion P (filter test xs)
all_filter P test [] h = h
all_filter P test (x ∷ xs) h = (elim (test x) as (λ b. AllByRecursion P (cond b (x ∷ filter test xs) (filter test xs))) [
  | true ↦ (h.0, all_filter P test xs h.1)
  | false ↦ all_filter P test xs h.1
])

pub all_take : {X : Type 0} (P : X → Type 0) (n : ℕ) (xs : List X) → AllByRecursion P xs → AllByRecursion P (take n xs)
all_take P zero xs h = tt
all_take P (suc n) [] h = h
all_take P (suc n) (x ∷ xs) h = (h.0, all_take P n xs h.1)

pub length_filter : {X : Type 0} (test : X → Bool) (xs : List X) → length (filter test xs) ≤ length xs
length_filter test [] = omega arith
length_filter test (x ∷ xs) = (elim (test x) as (λ b. length (cond b (x ∷ filter test xs) (filter test xs)) ≤ length (x ∷ xs)) [
  | true ↦ omega (arith, length_filter test xs)
  | false ↦ omega (arith, length_filter test xs)
])

-- ---- the entries of a slot

-- an entry of a slot has the slot
pub slot_is : (s : Slot) (h : Held) → of_slot s h ≡ true → s ≡ h.piece.slot
slot_is s h is = (is_slot_decides s h.piece.slot).0 is

pub own_slot : (h : Held) → of_slot h.piece.slot h ≡ true
own_slot h = (is_slot_decides h.piece.slot h.piece.slot).1 refl

abbrev NoneOf : Slot → List Held → Type 0
NoneOf s es = AllByRecursion (λ e. of_slot s e ≡ false) es

-- removing a slot without an entry changes nothing
pub without_none : (s : Slot) (es : List Held) → NoneOf s es → without s es ≡ es
without_none s [] h = refl
without_none s (e ∷ es) h = rw h.0 (ap (λ xs. e ∷ xs) (without_none s es h.1))

filter_none : (s : Slot) (es : List Held) → NoneOf s es → filter (of_slot s) es ≡ []
filter_none s [] h = refl
filter_none s (e ∷ es) h = rw h.0 (filter_none s es h.1)

any_none : (s : Slot) (Q : Held → Bool) (es : List Held) → NoneOf s es → list_any (λ h. of_slot s h && Q h) es ≡ false
any_none s Q [] h = refl
any_none s Q (e ∷ es) h = rw h.0 (any_none s Q es h.1)

-- after a slot's entry no entry has the slot
pub none_behind : (s : Slot) (h : Held) (es : List Held) → AreApart (h ∷ es) → of_slot s h ≡ true → NoneOf s es
none_behind s h es apart is = subst (λ t. NoneOf t es) (sym (slot_is s h is)) apart.0

-- the list without a slot has no entry of the slot
pub none_without : (s : Slot) (es : List Held) → NoneOf s (without s es)
none_without s [] = tt
none_without s (e ∷ es) = (elim (of_slot s e) as (λ b. of_slot s e ≡ b → NoneOf s (cond (not b) (e ∷ without s es) (without s es))) [
  | true ↦ λ is. none_without s es
  | false ↦ λ is. (is, none_without s es)
]) refl

-- ---- the entry of a slot, and the rest

pub filter_is_entry : (s : Slot) (es : List Held) → AreApart es → filter (of_slot s) es ≡ option_to_list (entry_of s es)
filter_is_entry s [] apart = refl
filter_is_entry s (e ∷ es) apart = (elim (of_slot s e) as (λ b. of_slot s e ≡ b → cond b (e ∷ filter (of_slot s) es) (filter (of_slot s) es) ≡ option_to_list (cond b (Some e) (entry_of s es))) [
  | true ↦ λ is. ap (λ xs. e ∷ xs) (filter_none s es (none_behind s e es apart is))
  | false ↦ λ is. filter_is_entry s es apart.1
]) refl

pub promoted_is : (s : Slot) (es : List Held) → AreApart es → promoted s es ≡ option_to_list (entry_of s es) ++ without s es
promoted_is s es apart = ap (λ xs. xs ++ without s es) (filter_is_entry s es apart)

-- a test of the slot's entry
pub any_is_entry : (s : Slot) (Q : Held → Bool) (es : List Held) → AreApart es → list_any (λ h. of_slot s h && Q h) es ≡ option_map_or Q (entry_of s es) false
any_is_entry s Q [] apart = refl
any_is_entry s Q (e ∷ es) apart = (elim (of_slot s e) as (λ b. of_slot s e ≡ b → (b && Q e) || list_any (λ h. of_slot s h && Q h) es ≡ option_map_or Q (cond b (Some e) (entry_of s es)) false) [
  | true ↦ λ is. rw (any_none s Q es (none_behind s e es apart is)) (or_false (Q e))
  | false ↦ λ is. any_is_entry s Q es apart.1
]) refl
  where
    or_false : (b : Bool) → (b || false) ≡ b
    or_false true = refl
    or_false false = refl

-- a slot's entry is found if any
pub entry_none : (s : Slot) (es : List Held) → entry_of s es ≡ None → NoneOf s es
entry_none s [] h = tt
entry_none s (e ∷ es) h = (elim (of_slot s e) as (λ b. of_slot s e ≡ b → cond b (Some e) (entry_of s es) ≡ None → NoneOf s (e ∷ es)) [
  | true ↦ λ is found. absurd (cc)
  | false ↦ λ is found. (is, entry_none s es found)
]) refl h

pub entry_is_of : (s : Slot) (es : List Held) (h : Held) → entry_of s es ≡ Some h → of_slot s h ≡ true
entry_is_of s [] h found = cc
entry_is_of s (e ∷ es) h found = (elim (of_slot s e) as (λ b. of_slot s e ≡ b → cond b (Some e) (entry_of s es) ≡ Some h → of_slot s h ≡ true) [
  | true ↦ λ is same. let e_is : e ≡ h = cc in subst (λ x. of_slot s x ≡ true) e_is is
  | false ↦ λ is same. entry_is_of s es h same
]) refl found

pub has_none : (s : Slot) (es : List Held) → NoneOf s es → has_slot s es ≡ false
has_none s [] h = refl
has_none s (e ∷ es) h = rw h.0 (has_none s es h.1)

pub without_absent : (s : Slot) (es : List Held) → entry_of s es ≡ None → without s es ≡ es
without_absent s es h = without_none s es (entry_none s es h)

-- without a slot's entry the list is shorter
pub length_without : (s : Slot) (es : List Held) (h : Held) → entry_of s es ≡ Some h → length (without s es) < length es
length_without s [] h found = cc
length_without s (e ∷ es) h found = (elim (of_slot s e) as (λ b. cond b (Some e) (entry_of s es) ≡ Some h → length (cond (not b) (e ∷ without s es) (without s es)) < length (e ∷ es)) [
  | true ↦ λ same. omega (arith, length_filter (λ x. not (of_slot s x)) es)
  | false ↦ λ same. omega (arith, length_without s es h same)
]) found

-- ---- slots stay different

pub apart_filter : (test : Held → Bool) (es : List Held) → AreApart es → AreApart (filter test es)
apart_filter test [] h = h
apart_filter test (e ∷ es) h = (elim (test e) as (λ b. AreApart (cond b (e ∷ filter test es) (filter test es))) [
  | true ↦ (all_filter (λ x. of_slot e.piece.slot x ≡ false) test es h.0, apart_filter test es h.1)
  | false ↦ apart_filter test es h.1
])

pub apart_take : (n : ℕ) (es : List Held) → AreApart es → AreApart (take n es)
apart_take zero es h = tt
apart_take (suc n) [] h = h
apart_take (suc n) (e ∷ es) h = (all_take (λ x. of_slot e.piece.slot x ≡ false) n es h.0, apart_take n es h.1)

pub apart_front : (h : Held) (es : List Held) → AreApart es → AreApart (h ∷ without h.piece.slot es)
apart_front h es apart = (none_without h.piece.slot es, apart_filter (λ e. not (of_slot h.piece.slot e)) es apart)

-- ---- properties of each entry

pub all_append : {X : Type 0} (P : X → Type 0) (xs ys : List X) → AllByRecursion P xs → AllByRecursion P ys → AllByRecursion P (xs ++ ys)
all_append P [] ys h k = k
all_append P (x ∷ xs) ys h k = (h.0, all_append P xs ys h.1 k)

pub all_entry : (P : Held → Type 0) (s : Slot) (es : List Held) → AllByRecursion P es → AllByRecursion P (option_to_list (entry_of s es))
all_entry P s [] h = tt
all_entry P s (e ∷ es) h = (elim (of_slot s e) as (λ b. AllByRecursion P (option_to_list (cond b (Some e) (entry_of s es)))) [
  | true ↦ (h.0, tt)
  | false ↦ all_entry P s es h.1
])

-- ---- properties of a cache's entries

pub held_without : (n : ℕ) (s : Slot) (es : List Held) → AreHeld (record { capacity = n; entries = es }) → AreHeld (record { capacity = n; entries = without s es })
held_without n s es h = record {
  some = h.some;
  few = omega (arith, h.few, length_filter (λ e. not (of_slot s e)) es);
  apart = apart_filter (λ e. not (of_slot s e)) es h.apart;
  formed = all_filter (λ e. IsPiece e.piece) (λ e. not (of_slot s e)) es h.formed;
}

pub held_promoted : (n : ℕ) (s : Slot) (es : List Held) → AreHeld (record { capacity = n; entries = es }) → AreHeld (record { capacity = n; entries = promoted s es })
held_promoted n s es h = rw (promoted_is s es h.apart)
    (record {
      some = h.some;
      few = front_few n s es h.few (entry_of s es) refl;
      apart = front_apart s es h.apart (entry_of s es) refl;
      formed = all_append (λ e. IsPiece e.piece) (option_to_list (entry_of s es)) (without s es)
          (all_entry (λ e. IsPiece e.piece) s es h.formed)
          (all_filter (λ e. IsPiece e.piece) (λ e. not (of_slot s e)) es h.formed);
    })
  where
    front_few : (n : ℕ) (s : Slot) (es : List Held) → length es ≤ n → (o : Option Held) → entry_of s es ≡ o → length (option_to_list o ++ without s es) ≤ n
    front_few n s es few None is = omega (arith, length_filter (λ e. not (of_slot s e)) es)
    front_few n s es few (Some e) is = omega (arith, length_without s es e is)

    front_apart : (s : Slot) (es : List Held) → AreApart es → (o : Option Held) → entry_of s es ≡ o → AreApart (option_to_list o ++ without s es)
    front_apart s es apart None is = apart_filter (λ e. not (of_slot s e)) es apart
    front_apart s es apart (Some e) is = (subst (λ t. NoneOf t (without s es)) (slot_is s e (entry_is_of s es e is)) (none_without s es), apart_filter (λ e. not (of_slot s e)) es apart)

pub held_kept : (n : ℕ) (h : Held) (es : List Held) → IsPiece h.piece → AreHeld (record { capacity = n; entries = es }) → AreHeld (record { capacity = n; entries = kept n h es })
held_kept n h es piece held = record {
  some = held.some;
  few = omega (arith, length-take n (h ∷ without h.piece.slot es));
  apart = apart_take n (h ∷ without h.piece.slot es) (apart_front h es held.apart);
  formed = all_take (λ e. IsPiece e.piece) n (h ∷ without h.piece.slot es) (piece, all_filter (λ e. IsPiece e.piece) (λ e. not (of_slot h.piece.slot e)) es held.formed);
}

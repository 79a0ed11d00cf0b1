-- Entries that deny a name: the name's own name error, and the name errors of names above.
use Rattle.std.proofs.Common.{◌≡◌, ℕ, ◌≤◌, Bool, true, false, ◌&&◌, ◌||◌, ◌==◌, ◌⊎◌, inl, inr, List, [], ◌∷◌, ◌++◌, length, Option, None, Some, refl, sym, ap, subst, ◌∙◌, arith, length-append}
use Rattle.std.specs.Prelude.{is_none}
use Rattle.std.specs.Bool.{Decides}
use Rattle.std.specs.List.{AllByRecursion}
use Rattle.std.specs.Cmp.{first_so, second_so}
use Rattle.std.proofs.lemmas.Bool.Decides.{Decides-eqb}
use Rattle.dns_name.specs.Labels.{lowered, is_under, IsSame, IsUnder}
use Rattle.dns_name.proofs.CallerLemmas.{lowered_again, same_as_many_labels, longer_is_under, is_under_decides}
use Rattle.record_cache.specs.TrustRank.declared.slot.Slot.{Slot}
use Rattle.record_cache.specs.TrustRank.Replacing.{is_name_error}
use Rattle.record_cache.specs.TrustRank.Formed.{IsPiece}
use Rattle.record_cache.specs.Values.{Held}
use Rattle.record_cache.specs.Entries.{of_slot}
use Rattle.record_cache.proofs.CallerLemmas.{slots_decide}
use Rattle.negative_cache.specs.Entries.{denies}

-- the slot of a name error
abbrev pub error_slot : ℕ → List (List ℕ) → Slot
error_slot class key = record { key = key; class = class; kind = None }

-- ---- tests

pub and_true : (a b : Bool) → a ≡ true → b ≡ true → (a && b) ≡ true
and_true true b h k = k
and_true false b h k = absurd cc

or_true : (a b : Bool) → (a || b) ≡ true → (a ≡ true) ⊎ (b ≡ true)
or_true true b h = inl refl
or_true false b h = inr h

true_or : (a b : Bool) → (a ≡ true) ⊎ (b ≡ true) → (a || b) ≡ true
true_or true b h = refl
true_or false b (inl h) = absurd cc
true_or false b (inr h) = h

one_test : (a b : Bool) → (a ≡ true → b ≡ true) → (b ≡ true → a ≡ true) → a ≡ b
one_test true true f g = refl
one_test true false f g = sym (f refl)
one_test false true f g = g refl
one_test false false f g = refl

-- ---- the answer of `denies`

abbrev IsError : ℕ → Held → Type 0
IsError class h = (is_name_error h.piece ≡ true) × (class ≡ h.piece.slot.class)

abbrev pub IsDenied : List (List ℕ) → ℕ → Held → Type 0
IsDenied name class h = IsError class h × IsUnder name h.piece.slot.key

pub denies_decides : (name : List (List ℕ)) (class : ℕ) (h : Held) → Decides (denies name class h) (IsDenied name class h)
denies_decides name class h =
    let error = is_name_error h.piece in
    let of_class = class == h.piece.slot.class in
    let under = is_under name h.piece.slot.key in (
      λ e. (
        (first_so error of_class (first_so (error && of_class) under e), (Decides-eqb class h.piece.slot.class).0 (second_so error of_class (first_so (error && of_class) under e))),
        (is_under_decides name h.piece.slot.key).0 (second_so (error && of_class) under e),
      ),
      λ d. and_true (error && of_class) under
          (and_true error of_class d.0.0 ((Decides-eqb class h.piece.slot.class).1 d.0.1))
          ((is_under_decides name h.piece.slot.key).1 d.1),
    )

-- a key is in lower case
abbrev pub IsLower : Held → Type 0
IsLower h = lowered h.piece.slot.key ≡ h.piece.slot.key

pub lower_key : (h : Held) → IsPiece h.piece → IsLower h
lower_key h piece = ap lowered piece.key ∙ lowered_again h.piece.owner ∙ sym piece.key

pub all_lower : (entries : List Held) → AllByRecursion (λ h. IsPiece h.piece) entries → AllByRecursion IsLower entries
all_lower [] formed = tt
all_lower (h ∷ entries) formed = (lower_key h formed.0, all_lower entries formed.1)

kind_none : (kind : Option ℕ) → is_none kind ≡ true → None ≡ kind
kind_none None e = refl
kind_none (Some kind) e = absurd cc

-- ---- the name's own name error

own_denies : (name : List (List ℕ)) (class : ℕ) (h : Held) → IsLower h → error_slot class (lowered name) ≡ h.piece.slot → IsDenied name class h
own_denies name class h lower e = (
  (subst (λ (s : Slot). is_none s.kind ≡ true) e refl, ap (λ (s : Slot). s.class) e),
  ([], name, refl, ap (λ (s : Slot). s.key) e ∙ sym lower),
)

slot_of_same : (name : List (List ℕ)) (class : ℕ) (h : Held) → IsLower h → IsError class h → IsSame name h.piece.slot.key → error_slot class (lowered name) ≡ h.piece.slot
slot_of_same name class h lower error same =
    let kind = kind_none h.piece.slot.kind error.0 in
    let key = same ∙ lower in
    λ i. record { key = key i; class = error.1 i; kind = kind i }

-- ---- from a name to the name above it

tail_is : (x y : List ℕ) (xs ys : List (List ℕ)) → x ∷ xs ≡ y ∷ ys → xs ≡ ys
tail_is x y xs ys e = cc

-- a name is under a key equal to the name, and under each key that the name above is under
one_higher : (label : List ℕ) (name key front back : List (List ℕ)) → label ∷ name ≡ front ++ back → IsSame back key → IsSame (label ∷ name) key ⊎ IsUnder name key
one_higher label name key [] back e same = inl (subst (λ (n : List (List ℕ)). IsSame n key) (sym e) same)
one_higher label name key (first ∷ front) back e same = inr (front, back, tail_is label first name (front ++ back) e, same)

at_root : (key front back : List (List ℕ)) → [] ≡ front ++ back → IsSame back key → IsSame [] key
at_root key [] back e same = subst (λ (n : List (List ℕ)). IsSame n key) (sym e) same
at_root key (first ∷ front) back e same = absurd cc

-- the root is denied only by its own name error
pub denies_root : (class : ℕ) (h : Held) → IsLower h → denies [] class h ≡ of_slot (error_slot class (lowered [])) h
denies_root class h lower = one_test (denies [] class h) (of_slot (error_slot class (lowered [])) h) to from
  where
    to : denies [] class h ≡ true → of_slot (error_slot class (lowered [])) h ≡ true
    to e =
        let d = (denies_decides [] class h).0 e in
        (slots_decide (error_slot class (lowered [])) h.piece.slot).1 (slot_of_same [] class h lower d.0 (at_root h.piece.slot.key d.1.0 d.1.1 d.1.2 d.1.3))

    from : of_slot (error_slot class (lowered [])) h ≡ true → denies [] class h ≡ true
    from e = (denies_decides [] class h).1 (own_denies [] class h lower ((slots_decide (error_slot class (lowered [])) h.piece.slot).0 e))

-- any other name is denied by its own name error, and by each denial of the name above
pub denies_higher : (label : List ℕ) (name : List (List ℕ)) (class : ℕ) (h : Held) → IsLower h → denies (label ∷ name) class h ≡ (of_slot (error_slot class (lowered (label ∷ name))) h || denies name class h)
denies_higher label name class h lower = one_test (denies (label ∷ name) class h) (of_slot (error_slot class (lowered (label ∷ name))) h || denies name class h) to from
  where
    either : IsError class h → IsSame (label ∷ name) h.piece.slot.key ⊎ IsUnder name h.piece.slot.key
        → (of_slot (error_slot class (lowered (label ∷ name))) h ≡ true) ⊎ (denies name class h ≡ true)
    either d (inl same) = inl ((slots_decide (error_slot class (lowered (label ∷ name))) h.piece.slot).1 (slot_of_same (label ∷ name) class h lower d same))
    either d (inr under) = inr ((denies_decides name class h).1 (d, under))

    to : denies (label ∷ name) class h ≡ true → (of_slot (error_slot class (lowered (label ∷ name))) h || denies name class h) ≡ true
    to e =
        let d = (denies_decides (label ∷ name) class h).0 e in
        true_or (of_slot (error_slot class (lowered (label ∷ name))) h) (denies name class h) (either d.0 (one_higher label name h.piece.slot.key d.1.0 d.1.1 d.1.2 d.1.3))

    whole : (of_slot (error_slot class (lowered (label ∷ name))) h ≡ true) ⊎ (denies name class h ≡ true) → denies (label ∷ name) class h ≡ true
    whole (inl e) = (denies_decides (label ∷ name) class h).1 (own_denies (label ∷ name) class h lower ((slots_decide (error_slot class (lowered (label ∷ name))) h.piece.slot).0 e))
    whole (inr e) =
        let d = (denies_decides name class h).0 e in
        (denies_decides (label ∷ name) class h).1 (d.0, longer_is_under label name h.piece.slot.key d.1)

    from : (of_slot (error_slot class (lowered (label ∷ name))) h || denies name class h) ≡ true → denies (label ∷ name) class h ≡ true
    from e = whole (or_true (of_slot (error_slot class (lowered (label ∷ name))) h) (denies name class h) e)

-- ---- numbers of labels

under_is_short : (name key : List (List ℕ)) → IsUnder name key → length key ≤ length name
under_is_short name key under = omega (arith, ap length under.2, length-append under.0 under.1, same_as_many_labels under.1 key under.3)

-- an entry that denies a name has no more labels
pub denies_is_short : (name : List (List ℕ)) (class : ℕ) (h : Held) → denies name class h ≡ true → length h.piece.slot.key ≤ length name
denies_is_short name class h is = under_is_short name h.piece.slot.key ((denies_decides name class h).0 is).1

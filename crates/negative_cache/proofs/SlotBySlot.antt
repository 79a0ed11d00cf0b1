-- The code's look-up, slot by slot, has the definition's result.
use Rattle.std.proofs.Common.{◌≡◌, ℕ, ◌<◌, Bool, true, false, cond, if◌then◌else◌, ◌&&◌, ◌||◌, ◌==◌, nat_lt, List, [], ◌∷◌, length, filter, Option, None, Some, refl, sym, ap, subst, ◌∙◌, arith}
use Rattle.std.specs.List.{find, AllByRecursion}
use Rattle.std.specs.Option.{option_or}
use Rattle.std.proofs.lemmas.Bool.Decides.{nat_tests}
use Rattle.dns_name.specs.Labels.{lowered}
use Rattle.dns_message.specs.Values.{Question}
use Rattle.suffix_routes.specs.Values.{Route}
use Rattle.suffix_routes.specs.Routes.{route_of}
use Rattle.record_cache.specs.TrustRank.declared.slot.Slot.{Slot}
use Rattle.record_cache.specs.TrustRank.Formed.{IsPiece}
use Rattle.record_cache.specs.Values.{Held}
use Rattle.record_cache.specs.Ageing.{is_alive}
use Rattle.record_cache.specs.Entries.{of_slot, entry_of, AreApart}
use Rattle.record_cache.proofs.CallerLemmas.{slots_decide, slots_are_the_same, entry_has_slot, none_behind}
use Rattle.negative_cache.specs.Values.{rows, alias, no_data, denied, miss}
use Rattle.negative_cache.specs.Entries.{is_set, is_no_data, denies}
use Rattle.negative_cache.specs.Finding.{is_of_type, is_on_route, nearer, nearest, denial_for, found_or, found}
use Rattle.negative_cache.specs.BySlot.{slots_of, only, is_on, climbed, nearest_error, found_by_slot}
use Rattle.negative_cache.proofs.Options.{only_some, only_both}
use Rattle.negative_cache.proofs.Denying.{error_slot, IsLower, all_lower, denies_root, denies_higher, denies_is_short}
use Rattle.negative_cache.proofs.Climbing.{or_none, lower_higher}

-- ---- lists

pub find_same : (p r : Held → Bool) (es : List Held) → AllByRecursion (λ h. p h ≡ r h) es → find p es ≡ find r es
find_same p r [] same = refl
find_same p r (e ∷ es) same = λ i. cond (same.0 i) (Some e) (find_same p r es same.1 i)

filter_same : (p r : Held → Bool) (es : List Held) → AllByRecursion (λ h. p h ≡ r h) es → filter p es ≡ filter r es
filter_same p r [] same = refl
filter_same p r (e ∷ es) same = λ i. cond (same.0 i) (e ∷ filter_same p r es same.1 i) (filter_same p r es same.1 i)

all_of : (P Q : Held → Type 0) → ((h : Held) → P h → Q h) → (es : List Held) → AllByRecursion P es → AllByRecursion Q es
all_of P Q f [] h = h
all_of P Q f (e ∷ es) h = (f e h.0, all_of P Q f es h.1)

pub all_are : (Q : Held → Type 0) → ((h : Held) → Q h) → (es : List Held) → AllByRecursion Q es
all_are Q f [] = tt
all_are Q f (e ∷ es) = (f e, all_are Q f es)

abbrev NoneOf : Slot → List Held → Type 0
NoneOf s es = AllByRecursion (λ e. of_slot s e ≡ false) es

-- ---- a slot's entry

find_none : (s : Slot) (P : Held → Bool) (es : List Held) → NoneOf s es → find (λ h. of_slot s h && P h) es ≡ None
find_none s P [] none = refl
find_none s P (e ∷ es) none = rw none.0 (find_none s P es none.1)

-- the entry of a slot and a test is the slot's entry, if passing
find_entry : (s : Slot) (P : Held → Bool) (es : List Held) → AreApart es → find (λ h. of_slot s h && P h) es ≡ only P (entry_of s es)
find_entry s P [] apart = refl
find_entry s P (e ∷ es) apart = (elim (of_slot s e) as (λ b. of_slot s e ≡ b → cond (b && P e) (Some e) (find (λ h. of_slot s h && P h) es) ≡ only P (cond b (Some e) (entry_of s es))) [
  | true ↦ λ is. ap (λ o. cond (P e) (Some e) o) (find_none s P es (none_behind s e es apart is))
  | false ↦ λ is. find_entry s P es apart.1
]) refl

module _ (entries : List Held) (q : Question) (apart : AreApart entries) (lower : AllByRecursion IsLower entries) (low : lowered q.name ≡ q.name) where
  abbrev slot : ℕ → Slot
  slot kind = record { key = q.name; class = q.class; kind = Some kind }

  -- the entry of a type's slot, if passing two tests
  pub typed_is : (T P : Held → Bool) (kind : ℕ) → only P (only T (entry_of (slot kind) entries)) ≡ find (λ h. is_of_type q kind h && (T h && P h)) entries
  typed_is T P kind =
      only_both T P (entry_of (slot kind) entries)
      ∙ sym (find_entry (slot kind) (λ h. T h && P h) entries apart)
      ∙ find_same (λ h. of_slot (slot kind) h && (T h && P h)) (λ h. is_of_type q kind h && (T h && P h)) entries
      (all_of IsLower (λ h. (of_slot (slot kind) h && (T h && P h)) ≡ (is_of_type q kind h && (T h && P h)))
      (λ h l. ap (λ b. b && (T h && P h)) (slots_are_the_same (slot kind) h.piece.slot low l)) entries lower)

-- ---- the nearest

-- an entry of fewer than n labels
abbrev IsShorter : ℕ → Held → Type 0
IsShorter n h = length h.piece.slot.key < n

abbrev AreShorter : ℕ → Option Held → Type 0
AreShorter n None = Unit {0}
AreShorter n (Some h) = IsShorter n h

nearer_short : (n : ℕ) (h : Held) (o : Option Held) → IsShorter n h → AreShorter n o → IsShorter n (nearer h o)
nearer_short n h None short shorter = short
nearer_short n h (Some other) short shorter = (elim (nat_lt (length h.piece.slot.key) (length other.piece.slot.key)) as (λ b. IsShorter n (if b then other else h)) [
  | true ↦ shorter
  | false ↦ short
])

nearest_short : (n : ℕ) (p : Held → Bool) (es : List Held) → AllByRecursion (λ h. p h ≡ true → IsShorter n h) es → AreShorter n (nearest (filter p es))
nearest_short n p [] short = tt
nearest_short n p (e ∷ es) short = (elim (p e) as (λ b. p e ≡ b → AreShorter n (nearest (cond b (e ∷ filter p es) (filter p es)))) [
  | true ↦ λ is. nearer_short n e (nearest (filter p es)) (short.0 is) (nearest_short n p es short.1)
  | false ↦ λ is. nearest_short n p es short.1
]) refl

not_less : (a b : ℕ) → b < a → nat_lt a b ≡ false
not_less a b h = grind (arith, nat_tests)

is_less : (a b : ℕ) → a < b → nat_lt a b ≡ true
is_less a b h = grind (arith, nat_tests)

-- an entry with more labels is nearest
nearer_first : (h : Held) (o : Option Held) → AreShorter (length h.piece.slot.key) o → nearer h o ≡ h
nearer_first h None shorter = refl
nearer_first h (Some other) shorter = rw (not_less (length h.piece.slot.key) (length other.piece.slot.key) shorter) refl

nearer_second : (h other : Held) → IsShorter (length other.piece.slot.key) h → nearer h (Some other) ≡ other
nearer_second h other short = rw (is_less (length h.piece.slot.key) (length other.piece.slot.key) short) refl

-- no entry passes
none_pass : (T : Held → Bool) (es : List Held) → nearest (filter (λ h. T h && false) es) ≡ None
none_pass T [] = refl
none_pass T (e ∷ es) = (elim (T e) as (λ t. nearest (cond (t && false) (e ∷ filter (λ h. T h && false) es) (filter (λ h. T h && false) es)) ≡ None) [
  | true ↦ none_pass T es
  | false ↦ none_pass T es
])

second_true : (a b : Bool) → (a && b) ≡ true → b ≡ true
second_true true b is = is
second_true false b is = cc

module _ (T below : Held → Bool) (s : Slot) where
  abbrev Short : Held → Type 0
  Short h = below h ≡ true → IsShorter (length s.key) h

  abbrev both : List Held → List Held
  both es = filter (λ h. T h && (of_slot s h || below h)) es

  abbrev shorter_ones : List Held → List Held
  shorter_ones es = filter (λ h. T h && below h) es

  none_own : (es : List Held) → NoneOf s es → both es ≡ shorter_ones es
  none_own [] none = refl
  none_own (e ∷ es) none = λ i. cond (T e && (none.0 i || below e)) (e ∷ none_own es none.1 i) (none_own es none.1 i)

  rest_short : (es : List Held) → NoneOf s es → AllByRecursion Short es → AreShorter (length s.key) (nearest (both es))
  rest_short es none short = subst (λ (xs : List Held). AreShorter (length s.key) (nearest xs)) (sym (none_own es none))
      (nearest_short (length s.key) (λ h. T h && below h) es
      (all_of Short (λ h. (T h && below h) ≡ true → IsShorter (length s.key) h) (λ h f is. f (second_true (T h) (below h) is)) es short))

  -- the first entry is the slot's
  own : (e : Held) (es : List Held) → of_slot s e ≡ true → NoneOf s es → AllByRecursion Short es → (t : Bool)
      → option_or (if t then Some e else None) (nearest (cond (t && below e) (e ∷ shorter_ones es) (shorter_ones es))) ≡ nearest (cond (t && true) (e ∷ both es) (both es))
  own e es is none short true =
      let key : length s.key ≡ length e.piece.slot.key = ap (λ (t : Slot). length t.key) ((slots_decide s e.piece.slot).0 is) in
      sym (ap Some (nearer_first e (nearest (both es)) (subst (λ (n : ℕ). AreShorter n (nearest (both es))) key (rest_short es none short))))
  own e es is none short false = ap nearest (sym (none_own es none))

  -- the first entry is another slot's, and passes
  passed : (e : Held) (es : List Held) → IsShorter (length s.key) e → (o : Option Held) → only T (entry_of s es) ≡ o → option_or o (nearest (shorter_ones es)) ≡ nearest (both es)
      → option_or o (Some (nearer e (nearest (shorter_ones es)))) ≡ Some (nearer e (nearest (both es)))
  passed e es short None is rest = ap (λ (o : Option Held). Some (nearer e o)) rest
  passed e es short (Some h) is rest =
      let key : length s.key ≡ length h.piece.slot.key = ap (λ (t : Slot). length t.key) (entry_has_slot s es h (only_some T (entry_of s es) h is).0) in
      sym (ap Some (ap (nearer e) (sym rest) ∙ nearer_second e h (subst (λ (n : ℕ). IsShorter n e) key short)))

  other : (e : Held) (es : List Held) → option_or (only T (entry_of s es)) (nearest (shorter_ones es)) ≡ nearest (both es) → (t w : Bool) → (w ≡ true → IsShorter (length s.key) e)
      → option_or (only T (entry_of s es)) (nearest (cond (t && w) (e ∷ shorter_ones es) (shorter_ones es))) ≡ nearest (cond (t && w) (e ∷ both es) (both es))
  other e es rest true true short = passed e es (short refl) (only T (entry_of s es)) refl rest
  other e es rest true false short = rest
  other e es rest false w short = rest

  -- the slot's entry, if any, is nearer than entries with fewer labels
  joined : (es : List Held) → AreApart es → AllByRecursion Short es → option_or (only T (entry_of s es)) (nearest (shorter_ones es)) ≡ nearest (both es)
  joined [] apart short = refl
  joined (e ∷ es) apart short = (elim (of_slot s e) as (λ b. of_slot s e ≡ b → option_or (only T (cond b (Some e) (entry_of s es))) (nearest (shorter_ones (e ∷ es))) ≡ nearest (cond (T e && (b || below e)) (e ∷ both es) (both es))) [
    | true ↦ λ is. own e es is (none_behind s e es apart is) short.1 (T e)
    | false ↦ λ is. other e es (joined es apart.1 short.1) (T e) (below e) short.0
  ]) refl

or_false : (b : Bool) → (b || false) ≡ b
or_false true = refl
or_false false = refl

-- name after name upwards, the first name error that passes is the nearest of all that pass
near_is : (T : Held → Bool) (class : ℕ) (key : List (List ℕ)) (es : List Held) → AreApart es → AllByRecursion IsLower es → lowered key ≡ key
    → climbed (λ k. only T (entry_of (error_slot class k) es)) key ≡ nearest (filter (λ h. T h && denies key class h) es)
near_is T class [] es apart lower low =
    let s : Slot = error_slot class [] in
    or_none (only T (entry_of s es))
    ∙ ap (option_or (only T (entry_of s es))) (sym (none_pass T es))
    ∙ joined T (λ h. false) s es apart (all_are (λ h. false ≡ true → IsShorter 0 h) (λ h is. absurd cc) es)
    ∙ ap nearest (filter_same (λ h. T h && (of_slot s h || false)) (λ h. T h && denies [] class h) es
    (all_of IsLower (λ h. (T h && (of_slot s h || false)) ≡ (T h && denies [] class h))
    (λ h l. ap (λ b. T h && b) (or_false (of_slot s h) ∙ sym (denies_root class h l))) es lower))
near_is T class (label ∷ key) es apart lower low =
    let s : Slot = error_slot class (label ∷ key) in
    ap (option_or (only T (entry_of s es))) (near_is T class key es apart lower (lower_higher (label ∷ key) key label refl low))
    ∙ joined T (denies key class) s es apart (all_are (λ h. denies key class h ≡ true → IsShorter (length (label ∷ key)) h) (λ h is. omega (arith, denies_is_short key class h is)) es)
    ∙ ap nearest (filter_same (λ h. T h && (of_slot s h || denies key class h)) (λ h. T h && denies (label ∷ key) class h) es
    (all_of IsLower (λ h. (T h && (of_slot s h || denies key class h)) ≡ (T h && denies (label ∷ key) class h))
    (λ h l. ap (λ b. T h && b) ((λ i. of_slot (error_slot class (sym low i)) h || denies key class h) ∙ sym (denies_higher label key class h l))) es lower))

denial_is : (routes : List Route) (moment : ℕ) (entries : List Held) (q : Question) → AreApart entries → AllByRecursion IsLower entries → lowered q.name ≡ q.name
    → nearest_error routes moment (slots_of entries) q.class q.name ≡ denial_for routes moment entries q
denial_is routes moment entries q apart lower low =
    (λ i. climbed (λ key. only_both (is_alive moment) (is_on routes (route_of routes q.name)) (entry_of (error_slot q.class key) entries) i) q.name)
    ∙ near_is (λ h. is_alive moment h && is_on_route routes q h) q.class q.name entries apart lower low

-- ---- the whole look-up

pub by_slot_is_found : (routes : List Route) (moment : ℕ) (entries : List Held) (q : Question) → AreApart entries → AllByRecursion (λ h. IsPiece h.piece) entries → lowered q.name ≡ q.name
    → found_by_slot routes moment (slots_of entries) q.name q.class q.kind ≡ found routes moment entries q
by_slot_is_found routes moment entries q apart formed low =
    let lower = all_lower entries formed in
    let set = typed_is entries q apart lower low (is_alive moment) is_set q.kind in
    let other = typed_is entries q apart lower low (is_alive moment) is_set 5 in
    let none = typed_is entries q apart lower low (is_alive moment) is_no_data q.kind in
    let near = denial_is routes moment entries q apart lower low in
    λ i. found_or rows (set i) (found_or alias (if q.kind == 5 then None else other i) (found_or no_data (none i) (found_or denied (near i) miss)))

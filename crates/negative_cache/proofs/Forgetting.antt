-- Removal of the name errors of a name and of the names above.
use Rattle.std.proofs.Common.{◌≡◌, ℕ, Bool, true, false, cond, ◌||◌, not, inl, inr, List, [], ◌∷◌, filter, refl, sym, ap, ◌∙◌}
use Rattle.std.specs.List.{AllByRecursion}
use Rattle.dns_name.specs.Labels.{lowered}
use Rattle.record_cache.specs.TrustRank.Formed.{IsPiece}
use Rattle.record_cache.specs.Values.{Held, Cache}
use Rattle.record_cache.specs.Entries.{of_slot, without, may_deny}
use Rattle.record_cache.specs.Laws.{Among}
use Rattle.record_cache.proofs.CallerLemmas.{none_denies}
use Rattle.negative_cache.specs.Entries.{denies}
use Rattle.negative_cache.specs.Showing.{shown}
use Rattle.negative_cache.proofs.Denying.{error_slot, IsLower, lower_key, denies_decides, denies_root, denies_higher}

-- the entries without the name errors of a name and of the names above, one name after another
abbrev pub forgotten : ℕ → List (List ℕ) → List Held → List Held
forgotten class [] entries = without (error_slot class (lowered [])) entries
forgotten class (label ∷ name) entries = forgotten class name (without (error_slot class (lowered (label ∷ name))) entries)

-- the entries without the name errors of the names above alone
abbrev pub forgotten_above : ℕ → List (List ℕ) → List Held → List Held
forgotten_above class [] entries = entries
forgotten_above class (label ∷ name) entries = forgotten class name entries

pub forgotten_is : (class : ℕ) (name : List (List ℕ)) (entries : List Held) → forgotten class name entries ≡ forgotten_above class name (without (error_slot class (lowered name)) entries)
forgotten_is class [] entries = refl
forgotten_is class (label ∷ name) entries = refl

-- ---- removing one after another removes all at once

all_filter : (P : Held → Type 0) (test : Held → Bool) (es : List Held) → AllByRecursion P es → AllByRecursion P (filter test es)
all_filter P test [] h = h
all_filter P test (e ∷ es) h = (elim (test e) as (λ b. AllByRecursion P (cond b (e ∷ filter test es) (filter test es))) [
  | true ↦ (h.0, all_filter P test es h.1)
  | false ↦ all_filter P test es h.1
])

all_of : (P Q : Held → Type 0) → ((h : Held) → P h → Q h) → (es : List Held) → AllByRecursion P es → AllByRecursion Q es
all_of P Q f [] h = h
all_of P Q f (e ∷ es) h = (f e h.0, all_of P Q f es h.1)

filter_once : (p r : Held → Bool) (es : List Held) → AllByRecursion (λ h. r h ≡ p h) es → filter (λ h. not (p h)) es ≡ filter (λ h. not (r h)) es
filter_once p r [] same = refl
filter_once p r (e ∷ es) same = λ i. cond (not (sym same.0 i)) (e ∷ filter_once p r es same.1 i) (filter_once p r es same.1 i)

filter_twice : (p q r : Held → Bool) (es : List Held) → AllByRecursion (λ h. r h ≡ (p h || q h)) es → filter (λ h. not (q h)) (filter (λ h. not (p h)) es) ≡ filter (λ h. not (r h)) es
filter_twice p q r [] same = refl
filter_twice p q r (e ∷ es) same =
    (elim (p e) as (λ b. filter (λ h. not (q h)) (cond (not b) (e ∷ filter (λ h. not (p h)) es) (filter (λ h. not (p h)) es)) ≡ cond (not (b || q e)) (e ∷ filter (λ h. not (r h)) es) (filter (λ h. not (r h)) es)) [
      | true ↦ filter_twice p q r es same.1
      | false ↦ λ i. cond (not (q e)) (e ∷ filter_twice p q r es same.1 i) (filter_twice p q r es same.1 i)
    ])
    ∙ (λ i. cond (not (sym same.0 i)) (e ∷ filter (λ h. not (r h)) es) (filter (λ h. not (r h)) es))

all_lower_forgotten : (class : ℕ) (name : List (List ℕ)) (entries : List Held) → AllByRecursion IsLower entries → forgotten class name entries ≡ shown name class entries
all_lower_forgotten class [] entries lower =
    filter_once (of_slot (error_slot class (lowered []))) (denies [] class) entries (all_of IsLower (λ h. denies [] class h ≡ of_slot (error_slot class (lowered [])) h) (λ h l. denies_root class h l) entries lower)
all_lower_forgotten class (label ∷ name) entries lower =
    all_lower_forgotten class name (without (error_slot class (lowered (label ∷ name))) entries) (all_filter IsLower (λ h. not (of_slot (error_slot class (lowered (label ∷ name))) h)) entries lower)
    ∙ filter_twice (of_slot (error_slot class (lowered (label ∷ name)))) (denies name class) (denies (label ∷ name) class) entries
    (all_of IsLower (λ h. denies (label ∷ name) class h ≡ (of_slot (error_slot class (lowered (label ∷ name))) h || denies name class h)) (λ h l. denies_higher label name class h l) entries lower)

pub forgotten_all : (class : ℕ) (name : List (List ℕ)) (entries : List Held) → AllByRecursion (λ h. IsPiece h.piece) entries → forgotten class name entries ≡ shown name class entries
forgotten_all class name entries formed = all_lower_forgotten class name entries (all_of (λ h. IsPiece h.piece) IsLower lower_key entries formed)

-- ---- nothing to forget

not_denied : (name : List (List ℕ)) (class : ℕ) (entries : List Held) → may_deny (lowered name) entries ≡ false → (h : Held) → Among h entries → IsPiece h.piece → denies name class h ≡ false
not_denied name class entries none h among piece = (elim (denies name class h) as (λ b. denies name class h ≡ b → b ≡ false) [
  | true ↦ λ is. let d = (denies_decides name class h).0 is in absurd (none_denies name entries h among piece none d.0.0 d.1)
  | false ↦ λ is. refl
]) refl

all_stay : (p : Held → Bool) (es : List Held) → ((h : Held) → Among h es → IsPiece h.piece → p h ≡ false) → AllByRecursion (λ h. IsPiece h.piece) es → filter (λ h. not (p h)) es ≡ es
all_stay p [] f formed = refl
all_stay p (e ∷ es) f formed = rw (f e (inl refl) formed.0) (ap (λ xs. e ∷ xs) (all_stay p es (λ h among. f h (inr among)) formed.1))

pub nothing_shown : (name : List (List ℕ)) (class : ℕ) (entries : List Held) → AllByRecursion (λ h. IsPiece h.piece) entries → may_deny (lowered name) entries ≡ false → shown name class entries ≡ entries
nothing_shown name class entries formed none = all_stay (denies name class) entries (not_denied name class entries none) formed

-- ---- the cache

pub cache_is : (a b : Cache) (entries : List Held) → a.capacity ≡ b.capacity → a.entries ≡ entries → a ≡ record b { entries = entries }
cache_is a b entries c e = λ i. record { capacity = c i; entries = e i }

-- a name higher
pub one_more : (class : ℕ) (rest higher : List (List ℕ)) (label : List ℕ) (entries entries' all : List Held) → rest ≡ label ∷ higher
    → forgotten_above class rest entries ≡ all → entries' ≡ without (error_slot class (lowered higher)) entries → forgotten_above class higher entries' ≡ all
one_more class rest higher label entries entries' all is left e =
    ap (forgotten_above class higher) e ∙ sym (forgotten_is class higher entries) ∙ sym (ap (λ (n : List (List ℕ)). forgotten_above class n entries) is) ∙ left

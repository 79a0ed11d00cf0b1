-- The found entry is alive, fits the question, and is the nearest.
use Rattle.std.proofs.Common.{◌≡◌, ◌≢◌, ℕ, ◌≤◌, Bool, true, false, cond, if◌then◌else◌, ◌&&◌, ◌==◌, nat_lt, ◌⊎◌, inl, inr, List, [], ◌∷◌, length, filter, Option, None, Some, refl, sym, ap, ◌∙◌, subst, arith}
use Rattle.std.specs.List.{find, AllByRecursion}
use Rattle.std.specs.Cmp.{first_so, second_so}
use Rattle.std.proofs.lemmas.Bool.{eq-eqb}
use Rattle.std.proofs.lemmas.Bool.Decides.{nat_tests}
use Rattle.dns_name.specs.Labels.{same}
use Rattle.dns_name.proofs.CallerLemmas.{same_decides}
use Rattle.dns_message.specs.Values.{Question}
use Rattle.suffix_routes.specs.Values.{Route}
use Rattle.suffix_routes.specs.Routes.{route_of, is_denied, denies as denies_route}
use Rattle.suffix_routes.proofs.CallerLemmas.{denied_respects_same}
use Rattle.record_cache.specs.TrustRank.Replacing.{same_kind}
use Rattle.record_cache.specs.Values.{Held}
use Rattle.record_cache.specs.Ageing.{is_alive}
use Rattle.record_cache.specs.Laws.{Among}
use Rattle.record_cache.proofs.CallerLemmas.{among_filter}
use Rattle.negative_cache.specs.Values.{Found, rows, alias, no_data, denied, miss}
use Rattle.negative_cache.specs.Entries.{is_set, is_no_data, denies}
use Rattle.negative_cache.specs.Finding.{is_of_type, is_on_route, set_for, alias_for, no_data_for, is_denial_for, nearer, nearest, denial_for, found_or, found}
use Rattle.negative_cache.specs.Laws.{IsTyped, IsDenial, Fits, FoundFits, IsNearer, NearestIsFound, NoneIsDenied}
use Rattle.negative_cache.proofs.Options.{option_decides}
use Rattle.negative_cache.proofs.Denying.{and_true}

-- ---- the entry found in a list

pub find_some : (p : Held → Bool) (es : List Held) (h : Held) → find p es ≡ Some h → Among h es × (p h ≡ true)
find_some p [] h is = cc
find_some p (e ∷ es) h is = (elim (p e) as (λ b. p e ≡ b → cond b (Some e) (find p es) ≡ Some h → Among h (e ∷ es) × (p h ≡ true)) [
  | true ↦ λ passes same. let e_is : e ≡ h = cc in (inl e_is, subst (λ x. p x ≡ true) e_is passes)
  | false ↦ λ fails same. let r = find_some p es h same in (inr r.0, r.1)
]) refl is

filter_some : (p : Held → Bool) (es : List Held) (h : Held) → Among h (filter p es) → Among h es × (p h ≡ true)
filter_some p [] h among = absurd among
filter_some p (e ∷ es) h among = (elim (p e) as (λ b. p e ≡ b → Among h (cond b (e ∷ filter p es) (filter p es)) → Among h (e ∷ es) × (p h ≡ true)) [
  | true ↦ λ passes there. elim there [
    | inl same ↦ (inl same, subst (λ x. p x ≡ true) same passes)
    | inr rest ↦ let r = filter_some p es h rest in (inr r.0, r.1)
  ]
  | false ↦ λ fails there. let r = filter_some p es h there in (inr r.0, r.1)
]) refl among

-- ---- the nearest

nearer_is : (e : Held) (o : Option Held) (h : Held) → nearer e o ≡ h → (e ≡ h) ⊎ (o ≡ Some h)
nearer_is e None h is = inl is
nearer_is e (Some x) h is = (elim (nat_lt (length e.piece.slot.key) (length x.piece.slot.key)) as (λ b. (if b then x else e) ≡ h → (e ≡ h) ⊎ (Some x ≡ Some h)) [
  | true ↦ λ same. inr (ap Some same)
  | false ↦ λ same. inl same
]) is

nearest_some : (es : List Held) (h : Held) → nearest es ≡ Some h → Among h es
nearest_some [] h is = cc
nearest_some (e ∷ es) h is = let same : nearer e (nearest es) ≡ h = cc in elim (nearer_is e (nearest es) h same) [
  | inl it ↦ inl it
  | inr rest ↦ inr (nearest_some es h rest)
]

less_is : (a b : ℕ) → nat_lt a b ≡ true → a ≤ b
less_is a b h = grind (arith, nat_tests)

not_less_is : (a b : ℕ) → nat_lt a b ≡ false → b ≤ a
not_less_is a b h = grind (arith, nat_tests)

-- no farther than either
nearer_first : (e : Held) (o : Option Held) → length e.piece.slot.key ≤ length (nearer e o).piece.slot.key
nearer_first e None = omega arith
nearer_first e (Some x) = (elim (nat_lt (length e.piece.slot.key) (length x.piece.slot.key)) as (λ b. nat_lt (length e.piece.slot.key) (length x.piece.slot.key) ≡ b → length e.piece.slot.key ≤ length (if b then x else e).piece.slot.key) [
  | true ↦ λ is. less_is (length e.piece.slot.key) (length x.piece.slot.key) is
  | false ↦ λ is. omega arith
]) refl

nearer_second : (e x : Held) → length x.piece.slot.key ≤ length (nearer e (Some x)).piece.slot.key
nearer_second e x = (elim (nat_lt (length e.piece.slot.key) (length x.piece.slot.key)) as (λ b. nat_lt (length e.piece.slot.key) (length x.piece.slot.key) ≡ b → length x.piece.slot.key ≤ length (if b then x else e).piece.slot.key) [
  | true ↦ λ is. omega arith
  | false ↦ λ is. not_less_is (length e.piece.slot.key) (length x.piece.slot.key) is
]) refl

nearest_is_near : (es : List Held) (other : Held) → Among other es → IsNearer (found_or denied (nearest es) miss) other
nearest_is_near [] other among = absurd among
nearest_is_near (e ∷ es) other (inl same) = subst (λ (x : Held). length x.piece.slot.key ≤ length (nearer e (nearest es)).piece.slot.key) same (nearer_first e (nearest es))
nearest_is_near (e ∷ es) other (inr rest) = (elim (nearest es) as (λ o. IsNearer (found_or denied o miss) other → length other.piece.slot.key ≤ length (nearer e o).piece.slot.key) [
  | None ↦ λ wrong. absurd wrong
  | Some x ↦ λ near. omega (arith, near, nearer_second e x)
]) (nearest_is_near es other rest)

-- ---- findings that fit

typed_fits : (moment : ℕ) (entries : List Held) (q : Question) (kind : ℕ) (P : Held → Bool) (h : Held)
    → find (λ x. is_of_type q kind x && (is_alive moment x && P x)) entries ≡ Some h → IsTyped moment entries q kind h × (P h ≡ true)
typed_fits moment entries q kind P h is =
    let there = find_some (λ x. is_of_type q kind x && (is_alive moment x && P x)) entries h is in
    let second = second_so (is_of_type q kind h) (is_alive moment h && P h) there.1 in
    (record { living = record { among = there.0; alive = first_so (is_alive moment h) (P h) second }; slot = first_so (is_of_type q kind h) (is_alive moment h && P h) there.1 }, second_so (is_alive moment h) (P h) second)

alias_fits : (moment : ℕ) (entries : List Held) (q : Question) (h : Held) (b : Bool) → (q.kind == 5) ≡ b → (if b then None else set_for moment entries q 5) ≡ Some h
    → IsTyped moment entries q 5 h × (is_set h ≡ true) × (q.kind ≢ 5)
alias_fits moment entries q h true five is = cc
alias_fits moment entries q h false five is =
    let t = typed_fits moment entries q 5 is_set h is in
    (t.0, t.1, λ same. let yes = eq-eqb q.kind 5 same in absurd cc)

denial_fits : (routes : List Route) (moment : ℕ) (entries : List Held) (q : Question) (h : Held) → denial_for routes moment entries q ≡ Some h → IsDenial routes moment entries q h
denial_fits routes moment entries q h is =
    let there = filter_some (is_denial_for routes moment q) entries h (nearest_some (filter (is_denial_for routes moment q) entries) h is) in
    let first = first_so (is_alive moment h && is_on_route routes q h) (denies q.name q.class h) there.1 in
    record {
      living = record { among = there.0; alive = first_so (is_alive moment h) (is_on_route routes q h) first };
      denies = second_so (is_alive moment h && is_on_route routes q h) (denies q.name q.class h) there.1;
      route = (option_decides (route_of routes h.piece.slot.key) (route_of routes q.name)).0 (second_so (is_alive moment h) (is_on_route routes q h) first);
    }

-- the finding of an entry, or the next finding
pub or_holds : (F : Found → Type 0) (so : Held → Found) (o : Option Held) (next : Found) → ((h : Held) → o ≡ Some h → F (so h)) → F next → F (found_or so o next)
or_holds F so (Some h) next f n = f h refl
or_holds F so None next f n = n

-- a property of each of the four findings holds of the result
found_holds : (F : Found → Type 0) (routes : List Route) (moment : ℕ) (entries : List Held) (q : Question)
    → ((h : Held) → set_for moment entries q q.kind ≡ Some h → F (rows h))
    → ((h : Held) → alias_for moment entries q ≡ Some h → F (alias h))
    → ((h : Held) → no_data_for moment entries q ≡ Some h → F (no_data h))
    → F (found_or denied (denial_for routes moment entries q) miss)
    → F (found routes moment entries q)
found_holds F routes moment entries q set other none last =
    let third : Found = found_or denied (denial_for routes moment entries q) miss in
    let second : Found = found_or no_data (no_data_for moment entries q) third in
    let first : Found = found_or alias (alias_for moment entries q) second in
    or_holds F rows (set_for moment entries q q.kind) first set
    (or_holds F alias (alias_for moment entries q) second other
    (or_holds F no_data (no_data_for moment entries q) third none last))

pub found_fits : FoundFits
found_fits routes moment entries q =
    found_holds (Fits routes moment entries q) routes moment entries q
    (λ h e. typed_fits moment entries q q.kind is_set h e)
    (λ h e. alias_fits moment entries q h (q.kind == 5) refl e)
    (λ h e. typed_fits moment entries q q.kind is_no_data h e)
    (or_holds (Fits routes moment entries q) denied (denial_for routes moment entries q) miss (λ h e. denial_fits routes moment entries q h e) tt)

pub nearest_is_found : NearestIsFound
nearest_is_found routes moment entries q other denial =
    let route = (option_decides (route_of routes other.piece.slot.key) (route_of routes q.name)).1 denial.route in
    let passes = and_true (is_alive moment other && is_on_route routes q other) (denies q.name q.class other) (and_true (is_alive moment other) (is_on_route routes q other) denial.living.alive route) denial.denies in
    found_holds (λ f. IsNearer f other) routes moment entries q (λ h e. tt) (λ h e. tt) (λ h e. tt)
    (nearest_is_near (filter (is_denial_for routes moment q) entries) other (among_filter (is_denial_for routes moment q) entries other denial.living.among passes))

-- ---- denied names

none_denied : (routes : List Route) (entries : List Held) (h : Held) → NoneIsDenied routes entries → Among h entries → is_denied routes h.piece.slot.key ≡ false
none_denied routes [] h all among = absurd among
none_denied routes (e ∷ es) h all (inl same) = subst (λ (x : Held). is_denied routes x.piece.slot.key ≡ false) same all.0
none_denied routes (e ∷ es) h all (inr rest) = none_denied routes es h all.1 rest

-- an entry in a slot of the name is denied if the name is
pub typed_denied : (routes : List Route) (q : Question) (kind : ℕ) (h : Held) → is_of_type q kind h ≡ true → is_denied routes h.piece.slot.key ≡ is_denied routes q.name
typed_denied routes q kind h slot =
    let key = h.piece.slot.key in
    let outer = first_so (same q.name key && (q.class == h.piece.slot.class)) (same_kind (Some kind) h.piece.slot.kind) slot in
    sym (denied_respects_same routes q.name key ((same_decides q.name key).0 (first_so (same q.name key) (q.class == h.piece.slot.class) outer)))

-- no held entry is denied, so none is of a denied name
pub none_of_denied : (routes : List Route) (entries : List Held) (q : Question) (h : Held) → NoneIsDenied routes entries → is_denied routes q.name ≡ true
    → Among h entries → is_denied routes h.piece.slot.key ≡ is_denied routes q.name → ⊥
none_of_denied routes entries q h none denied_is among same =
    let one : false ≡ true = sym (none_denied routes entries h none among) ∙ same ∙ denied_is in absurd (cc)

pub nothing_found_of_denied : (routes : List Route) (moment : ℕ) (entries : List Held) (q : Question) → NoneIsDenied routes entries → is_denied routes q.name ≡ true
    → found routes moment entries q ≡ miss
nothing_found_of_denied routes moment entries q none denied_is =
    let no = λ (h : Held). none_of_denied routes entries q h none denied_is in
    found_holds (λ f. f ≡ miss) routes moment entries q
    (λ h e. let t = typed_fits moment entries q q.kind is_set h e in absurd (no h t.0.living.among (typed_denied routes q q.kind h t.0.slot)))
    (λ h e. let t = alias_fits moment entries q h (q.kind == 5) refl e in absurd (no h t.0.living.among (typed_denied routes q 5 h t.0.slot)))
    (λ h e. let t = typed_fits moment entries q q.kind is_no_data h e in absurd (no h t.0.living.among (typed_denied routes q q.kind h t.0.slot)))
    (or_holds (λ f. f ≡ miss) denied (denial_for routes moment entries q) miss
    (λ h e. let d = denial_fits routes moment entries q h e in absurd (no h d.living.among (ap (denies_route routes) d.route))) refl)

-- The route of a name: the answer is unique, and computed.
use Rattle.std.proofs.Common.{◌≡◌, ℕ, zero, suc, ◌+◌, ◌<◌, ◌≤◌, Bool, true, false, List, [], ◌∷◌, ◌++◌, length, Option, Some, None, refl, sym, ap, subst, ◌∙◌, arith, inl, inr, ◌⊎◌}
use Rattle.std.specs.Prelude.{slice_get, position}
use Rattle.std.specs.Prelude.{nat_eq}
use Rattle.std.specs.Cmp.Lexicographic.{pointwise}
use Rattle.std.specs.List.{AllByRecursion, position_or_len}
use Rattle.std.proofs.lemmas.Option.{slice_get_within}
use Rattle.std.proofs.lemmas.Bool.{cases_Bool, cases_lt, lt-ltb, le-ltb}
use Rattle.dns_name.specs.Labels.{IsUnder, IsSame, lowered, same, size_of}
use Rattle.dns_name.proofs.CallerLemmas.{same_as_many_labels, same_decides, lowered_again, ends_where_under, under_respects_same, suffixes_same, under_itself, under_transitive, suffix_under_suffix, more_labels_more_octets, same_as_many_octets, size_at_least_one, longer_is_under}
use Rattle.suffix_routes.specs.Values.{Route, IsRoute, HasNoSuffix, AllDiffer}
use Rattle.suffix_routes.specs.Routes.{IsRouteOf, IsAnswer, route_at, place_or, route_of}

abbrev Name : Type 0
Name = List (List ℕ)

-- ---- the first place passing a test

record FoundAt {X : Type 0} (p : X → Bool) (xs : List X) (place : ℕ) : Type 0 where
  item : X
  there : slice_get xs place ≡ Some item
  passes : p item ≡ true

found_first : {X : Type 0} (p : X → Bool) (xs : List X) → position_or_len p xs < length xs → FoundAt p xs (position_or_len p xs)
found_first p [] lt = absurd (omega arith)
found_first p (x ∷ xs) lt =
    elim (cases_Bool (p x)) [
      | inl pass ↦ rw pass (record { item = x; there = refl; passes = pass })
      | inr fail ↦
          let more = found_first p xs (omega (arith, rw fail at lt)) in
          let next : 1 + position_or_len p xs ≡ suc (position_or_len p xs) = omega arith in
          rw (fail, next) (record { item = more.item; there = more.there; passes = more.passes })
    ]

none_passes : {X : Type 0} (p : X → Bool) (xs : List X) → length xs ≤ position_or_len p xs → (k : ℕ) (x : X) → slice_get xs k ≡ Some x → p x ≡ false
none_passes p [] le k x is = absurd (let no : None ≡ Some x = is in cc)
none_passes p (y ∷ ys) le zero x is =
    let first : y ≡ x = cc in
    elim (cases_Bool (p y)) [
      | inl pass ↦ absurd (omega (arith, rw pass at le))
      | inr fail ↦ rw (← first) fail
    ]
none_passes p (y ∷ ys) le (suc k) x is =
    elim (cases_Bool (p y)) [
      | inl pass ↦ absurd (omega (arith, rw pass at le))
      | inr fail ↦ none_passes p ys (omega (arith, rw fail at le)) k x is
    ]

position_some : {X : Type 0} (p : X → Bool) (xs : List X) (place : ℕ) → position p xs ≡ Some place → FoundAt p xs place
position_some p xs place is =
    elim (cases_lt (position_or_len p xs) (length xs)) [
      | inl lt ↦
          let here : Some (position_or_len p xs) ≡ Some place = rw (lt-ltb _ _ lt) at is in
          let one : position_or_len p xs ≡ place = cc in
          subst (FoundAt p xs) one (found_first p xs lt)
      | inr le ↦ absurd (let no : None ≡ Some place = rw (le-ltb _ _ le) at is in cc)
    ]

position_none : {X : Type 0} (p : X → Bool) (xs : List X) → position p xs ≡ None → (k : ℕ) (x : X) → slice_get xs k ≡ Some x → p x ≡ false
position_none p xs is =
    elim (cases_lt (position_or_len p xs) (length xs)) [
      | inl lt ↦ absurd (let no : Some (position_or_len p xs) ≡ None = rw (lt-ltb _ _ lt) at is in cc)
      | inr le ↦ none_passes p xs le
    ]

-- ---- the computed place is an answer

under_cases : (l : List ℕ) (ls s : Name) → IsUnder (l ∷ ls) s → IsSame (l ∷ ls) s ⊎ IsUnder ls s
under_cases l ls s ([], back, parts, one) = inl (ap lowered parts ∙ one)
under_cases l ls s ((f ∷ front), back, parts, one) = let rest : ls ≡ front ++ back = cc in inr (front, back, rest, one)

-- if a route's suffix is the name itself, this route is the answer
own_route : (routes : List Route) (name : Name) (place : ℕ) → route_at routes name ≡ Some place → IsRouteOf routes name place
own_route routes name place is =
    let found = position_some (λ r. same name r.suffix) routes place is in
    let one = (same_decides name found.item.suffix).0 found.passes in
    record {
      route = found.item;
      there = found.there;
      under = under_respects_same name name name found.item.suffix refl one (under_itself name);
      most = λ k other there under. omega (arith, (ends_where_under name other.suffix under).fewer, same_as_many_labels name found.item.suffix one);
    }

-- no suffix is the name itself
pub no_own : (routes : List Route) (name : Name) → route_at routes name ≡ None → (k : ℕ) (other : Route) → slice_get routes k ≡ Some other → IsSame name other.suffix → ⊥
no_own routes name is k other there one =
    let fails = position_none (λ r. same name r.suffix) routes is k other there in
    let no : false ≡ true = sym fails ∙ (same_decides name other.suffix).1 one in
    absurd cc

-- if no suffix is the name itself, an answer for the name without its first label is an answer for
-- the name
longer_name : (routes : List Route) (l : List ℕ) (ls : Name) (answer : Option ℕ) → route_at routes (l ∷ ls) ≡ None → IsAnswer routes ls answer → IsAnswer routes (l ∷ ls) answer
longer_name routes l ls None none answer = λ k other there under.
    elim (under_cases l ls other.suffix under) [
      | inl one ↦ no_own routes (l ∷ ls) none k other there one
      | inr rest ↦ answer k other there rest
    ]
longer_name routes l ls (Some place) none answer = record {
  route = answer.route;
  there = answer.there;
  under = longer_is_under l ls answer.route.suffix answer.under;
  most = λ k other there under.
      elim (under_cases l ls other.suffix under) [
        | inl one ↦ absurd (no_own routes (l ∷ ls) none k other there one)
        | inr rest ↦ answer.most k other there rest
      ];
}

root_answer : (routes : List Route) (answer : Option ℕ) → route_at routes [] ≡ answer → IsAnswer routes [] answer
root_answer routes (Some place) is = own_route routes [] place is
root_answer routes None is = λ k other there under.
    no_own routes [] is k other there (under_nil other.suffix under)
  where
    under_nil : (s : Name) → IsUnder [] s → IsSame [] s
    under_nil s ([], back, parts, one) = ap lowered parts ∙ one
    under_nil s ((f ∷ front), back, parts, one) = absurd cc

place_answer : (routes : List Route) (l : List ℕ) (ls : Name) (here next : Option ℕ) → route_at routes (l ∷ ls) ≡ here → IsAnswer routes ls next → IsAnswer routes (l ∷ ls) (place_or here next)
place_answer routes l ls (Some place) next is answer = own_route routes (l ∷ ls) place is
place_answer routes l ls None next is answer = longer_name routes l ls next is answer

pub route_of-is : (routes : List Route) (name : Name) → IsAnswer routes name (route_of routes name)
unfolding route_of
route_of-is routes [] = root_answer routes (route_at routes []) refl
route_of-is routes (l ∷ ls) = place_answer routes l ls (route_at routes (l ∷ ls)) (route_of routes ls) refl (route_of-is routes ls)

-- ---- the answer is unique

differs : (suffix : Name) (routes : List Route) (k : ℕ) (other : Route) → HasNoSuffix suffix routes → slice_get routes k ≡ Some other → IsSame suffix other.suffix → ⊥
differs suffix [] k other none there one = absurd (let no : None ≡ Some other = there in cc)
differs suffix (r ∷ rs) zero other none there one = let here : r ≡ other = cc in none.0 (rw here one)
differs suffix (r ∷ rs) (suc k) other none there one = differs suffix rs k other none.1 there one

-- two places with equal suffixes are equal
pub one_place : (routes : List Route) (j k : ℕ) (a b : Route) → AllDiffer routes → slice_get routes j ≡ Some a → slice_get routes k ≡ Some b → IsSame a.suffix b.suffix → j ≡ k
one_place [] j k a b differ at_j at_k one = absurd (let no : None ≡ Some a = at_j in cc)
one_place (r ∷ rs) zero zero a b differ at_j at_k one = refl
one_place (r ∷ rs) zero (suc k) a b differ at_j at_k one = let here : r ≡ a = cc in absurd (differs r.suffix rs k b differ.0 at_k (rw here one))
one_place (r ∷ rs) (suc j) zero a b differ at_j at_k one = let here : r ≡ b = cc in absurd (differs r.suffix rs j a differ.0 at_j (rw here (sym one)))
one_place (r ∷ rs) (suc j) (suc k) a b differ at_j at_k one = ap suc (one_place rs j k a b differ.1 at_j at_k one)

pub one_route : (routes : List Route) (name : Name) (j k : ℕ) → AllDiffer routes → IsRouteOf routes name j → IsRouteOf routes name k → j ≡ k
one_route routes name j k differ a b =
    let count : length a.route.suffix ≡ length b.route.suffix = omega (arith, a.most k b.route b.there b.under, b.most j a.route a.there a.under) in
    one_place routes j k a.route b.route differ a.there b.there (suffixes_same name a.route.suffix b.route.suffix a.under b.under count)

pub one_answer : (routes : List Route) (name : Name) (a b : Option ℕ) → AllDiffer routes → IsAnswer routes name a → IsAnswer routes name b → a ≡ b
one_answer routes name None None differ a b = refl
one_answer routes name (Some j) (Some k) differ a b = ap Some (one_route routes name j k differ a b)
one_answer routes name (Some j) None differ a b = absurd (b j a.route a.there a.under)
one_answer routes name None (Some k) differ a b = absurd (a k b.route b.there b.under)

pub computed : (routes : List Route) (name : Name) (answer : Option ℕ) → AllDiffer routes → IsAnswer routes name answer → answer ≡ route_of routes name
computed routes name answer differ is = one_answer routes name answer (route_of routes name) differ is (route_of-is routes name)

-- the key's labels have the route of the name
at_lowered : (routes : List Route) (name : Name) → route_at routes (lowered name) ≡ route_at routes name
at_lowered routes name = ap (λ (n : Name). position (λ (r : Route). pointwise (pointwise nat_eq) n (lowered r.suffix)) routes) (lowered_again name)

pub route_of-lowered : (routes : List Route) (name : Name) → route_of routes (lowered name) ≡ route_of routes name
unfolding route_of
route_of-lowered routes [] = refl
route_of-lowered routes (l ∷ ls) = rw (at_lowered routes (l ∷ ls), route_of-lowered routes ls) refl

-- an answer for a name is an answer for each equal name
pub answer_of_same : (routes : List Route) (n m : Name) (answer : Option ℕ) → IsSame n m → IsAnswer routes n answer → IsAnswer routes m answer
answer_of_same routes n m None one answer = λ k other there under. answer k other there (under_respects_same m n other.suffix other.suffix (sym one) refl under)
answer_of_same routes n m (Some place) one answer = record {
  route = answer.route;
  there = answer.there;
  under = under_respects_same n m answer.route.suffix answer.route.suffix one refl answer.under;
  most = λ k other there under. answer.most k other there (under_respects_same m n other.suffix other.suffix (sym one) refl under);
}

-- ---- the best of the routes before a place

pub record BestIs (routes : List Route) (name : Name) (i place size : ℕ) : Type 0 where
  pub route : Route
  pub there : slice_get routes place ≡ Some route
  pub under : IsUnder name route.suffix
  pub long : size ≡ size_of route.suffix
  pub most : (k : ℕ) (other : Route) → k < i → slice_get routes k ≡ Some other → IsUnder name other.suffix → length other.suffix ≤ length route.suffix

abbrev pub BestBelow : List Route → Name → ℕ → Option ℕ → ℕ → Type 0
BestBelow routes name i None size = (size ≡ 0) × ((k : ℕ) (other : Route) → k < i → slice_get routes k ≡ Some other → IsUnder name other.suffix → ⊥)
BestBelow routes name i (Some place) size = BestIs routes name i place size

-- a suffix of a name with no more octets than a second suffix has no more labels
no_longer : (name s t : Name) → IsUnder name s → IsUnder name t → size_of s ≤ size_of t → length s ≤ length t
no_longer name s t us ut le =
    elim (cases_lt (length t) (length s)) [
      | inl lt ↦ absurd (omega (arith, more_labels_more_octets name s t us ut lt))
      | inr fewer ↦ fewer
    ]

at_or_below : (k i : ℕ) → k < i + 1 → (k < i) ⊎ (k ≡ i)
at_or_below k i lt =
    elim (cases_lt k i) [
      | inl below ↦ inl below
      | inr above ↦ inr (omega arith)
    ]

here : (routes : List Route) (i : ℕ) (r other : Route) (k : ℕ) → k ≡ i → slice_get routes i ≡ Some r → slice_get routes k ≡ Some other → other ≡ r
here routes i r other k same at_i at_k = let both : slice_get routes i ≡ Some other = rw (← same) at_k in cc

pub passed_over : (routes : List Route) (name : Name) (i : ℕ) (found : Option ℕ) (size : ℕ) (r : Route) → slice_get routes i ≡ Some r → BestBelow routes name i found size
    → (IsUnder name r.suffix → size_of r.suffix ≤ size) → BestBelow routes name (i + 1) found size
passed_over routes name i None size r at best short = (
  best.0,
  λ k other lt there under.
      elim (at_or_below k i lt) [
        | inl below ↦ best.1 k other below there under
        | inr same_place ↦
            let one = here routes i r other k same_place at there in
            absurd (omega (arith, short (rw (← one) under), best.0, size_at_least_one r.suffix))
      ],
)
passed_over routes name i (Some place) size r at best short = record {
  route = best.route;
  there = best.there;
  under = best.under;
  long = best.long;
  most = λ k other lt there under.
      elim (at_or_below k i lt) [
        | inl below ↦ best.most k other below there under
        | inr same_place ↦
            let one = here routes i r other k same_place at there in
            let mine : IsUnder name r.suffix = rw (← one) under in
            rw one (no_longer name r.suffix best.route.suffix mine best.under (omega (arith, short mine, best.long)))
      ];
}

pub taken : (routes : List Route) (name : Name) (i : ℕ) (found : Option ℕ) (size : ℕ) (r : Route) → slice_get routes i ≡ Some r → BestBelow routes name i found size
    → IsUnder name r.suffix → size < size_of r.suffix → BestBelow routes name (i + 1) (Some i) (size_of r.suffix)
taken routes name i found size r at best mine long = record {
  route = r;
  there = at;
  under = mine;
  long = refl;
  most = λ k other lt there under.
      elim (at_or_below k i lt) [
        | inl below ↦ before found best k other below there under
        | inr same_place ↦ let one = here routes i r other k same_place at there in rw one (omega arith)
      ];
}
  where
    before : (found : Option ℕ) → BestBelow routes name i found size → (k : ℕ) (other : Route) → k < i → slice_get routes k ≡ Some other → IsUnder name other.suffix → length other.suffix ≤ length r.suffix
    before None best k other lt there under = absurd (best.1 k other lt there under)
    before (Some place) best k other lt there under =
        omega (arith, best.most k other lt there under, no_longer name best.route.suffix r.suffix best.under mine (omega (arith, best.long)))

pub best_of_all : (routes : List Route) (name : Name) (found : Option ℕ) (size : ℕ) → BestBelow routes name (length routes) found size → IsAnswer routes name found
best_of_all routes name None size best = λ k other there under. best.1 k other (slice_get_within routes k other there) there under
best_of_all routes name (Some place) size best = record {
  route = best.route;
  there = best.there;
  under = best.under;
  most = λ k other there under. best.most k other (slice_get_within routes k other there) there under;
}

-- equal names have the same route
pub route_of-same : (routes : List Route) (n m : Name) → IsSame n m → route_of routes n ≡ route_of routes m
route_of-same routes n m one = sym (route_of-lowered routes n) ∙ ap (route_of routes) one ∙ route_of-lowered routes m

is_route_at : (routes : List Route) (name : Name) (place : ℕ) (answer : Option ℕ) → answer ≡ Some place → IsAnswer routes name answer → IsRouteOf routes name place
is_route_at routes name place None is answer = absurd (let no : None ≡ Some place = is in cc)
is_route_at routes name place (Some k) is answer = let one : k ≡ place = cc in subst (IsRouteOf routes name) one answer

-- the route of a name is listed, with the longest suffix above the name
pub route_of-some : (routes : List Route) (name : Name) (place : ℕ) → route_of routes name ≡ Some place → IsRouteOf routes name place
route_of-some routes name place is = is_route_at routes name place (route_of routes name) is (route_of-is routes name)

pub route_of-within : (routes : List Route) (name : Name) (place : ℕ) → route_of routes name ≡ Some place → place < length routes
route_of-within routes name place is = let r = route_of-some routes name place is in slice_get_within routes place r.route r.there

-- a property of each route is a property of the route at a place
pub all_hold : (P : Route → Type 0) (routes : List Route) (place : ℕ) (r : Route) → AllByRecursion P routes → slice_get routes place ≡ Some r → P r
all_hold P [] place r each there = absurd (let no : None ≡ Some r = there in cc)
all_hold P (x ∷ xs) zero r each there = let one : x ≡ r = cc in subst P one each.0
all_hold P (x ∷ xs) (suc k) r each there = all_hold P xs k r each.1 there

pub route_holds : (routes : List Route) (place : ℕ) (r : Route) → AllByRecursion IsRoute routes → slice_get routes place ≡ Some r → IsRoute r
route_holds routes place r each there = all_hold IsRoute routes place r each there

-- ---- a name and a name above

-- the name above is under each suffix of the name with no more octets
above_is_under : (name above s : Name) → IsUnder name above → IsUnder name s → size_of s ≤ size_of above → IsUnder above s
above_is_under name above s under mine le = suffix_under_suffix name above s under mine (no_longer name s above mine under le)

answer_of_above : (routes : List Route) (name above : Name) (answer : Option ℕ) → IsUnder name above
    → ((k : ℕ) (other : Route) → slice_get routes k ≡ Some other → IsUnder name other.suffix → size_of other.suffix ≤ size_of above)
    → IsAnswer routes above answer → IsAnswer routes name answer
answer_of_above routes name above None under short answer = λ k other there mine.
    answer k other there (above_is_under name above other.suffix under mine (short k other there mine))
answer_of_above routes name above (Some place) under short answer = record {
  route = answer.route;
  there = answer.there;
  under = under_transitive name above answer.route.suffix under answer.under;
  most = λ k other there mine. answer.most k other there (above_is_under name above other.suffix under mine (short k other there mine));
}

-- if no suffix of a name has more octets than a name above, both have the same route
pub route_of-above : (routes : List Route) (name above : Name) → AllDiffer routes → IsUnder name above
    → ((k : ℕ) (other : Route) → slice_get routes k ≡ Some other → IsUnder name other.suffix → size_of other.suffix ≤ size_of above)
    → route_of routes above ≡ route_of routes name
route_of-above routes name above differ under short =
    computed routes name (route_of routes above) differ (answer_of_above routes name above (route_of routes above) under short (route_of-is routes above))

-- a suffix of a name with no more labels than a second suffix has no more octets
no_larger : (name s t : Name) → IsUnder name s → IsUnder name t → length s ≤ length t → size_of s ≤ size_of t
no_larger name s t us ut le =
    elim (cases_lt (length s) (length t)) [
      | inl lt ↦ omega (arith, more_labels_more_octets name t s ut us lt)
      | inr ge ↦ omega (arith, same_as_many_octets s t (suffixes_same name s t us ut (omega (arith, le, ge))))
    ]

no_answer_of_both : (routes : List Route) (name above : Name) (answer : Option ℕ) (k : ℕ) (other : Route) → IsUnder name above
    → slice_get routes k ≡ Some other → IsUnder name other.suffix → size_of above < size_of other.suffix
    → IsAnswer routes above answer → IsAnswer routes name answer → ⊥
no_answer_of_both routes name above None k other under there mine long higher lower = lower k other there mine
no_answer_of_both routes name above (Some place) k other under there mine long higher lower =
    let one : lower.route ≡ higher.route = here routes place higher.route lower.route place refl higher.there lower.there in
    let few = subst (λ (r : Route). length other.suffix ≤ length r.suffix) one (lower.most k other there mine) in
    let short = (ends_where_under above higher.route.suffix higher.under).fewer in
    omega (arith, long, no_larger name other.suffix above mine under (omega (arith, few, short)))

-- if a suffix has more octets, the routes differ
pub route_of-longer : (routes : List Route) (name above : Name) (k : ℕ) (other : Route) → IsUnder name above
    → slice_get routes k ≡ Some other → IsUnder name other.suffix → size_of above < size_of other.suffix
    → route_of routes above ≡ route_of routes name → ⊥
route_of-longer routes name above k other under there mine long one =
    no_answer_of_both routes name above (route_of routes above) k other under there mine long (route_of-is routes above) (subst (λ (answer : Option ℕ). IsAnswer routes name answer) (sym one) (route_of-is routes name))

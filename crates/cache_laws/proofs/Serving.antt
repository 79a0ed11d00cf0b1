-- The route serving or denying a name.
use Rattle.std.proofs.Common.{◌≡◌, ℕ, true, false, List, inl, inr, Option, Some, None, refl, sym, ap, ◌∙◌, subst}
use Rattle.std.proofs.lemmas.Bool.{cond-false, cases_Bool, false≢true}
use Rattle.suffix_routes.specs.Values.{Config, AllDiffer}
use Rattle.suffix_routes.specs.Routes.{IsRouteOf, IsAnswer, HasNoRoute, route_of, serving, serving_at}
use Rattle.suffix_routes.specs.Routes.{denies, denies_at}
use Rattle.suffix_routes.specs.Serving.{serving_route_of, is_local}
use Rattle.suffix_routes.proofs.CallerLemmas.{route_found_is_longest, serving_is, serving_denies_nothing}
use Rattle.suffix_routes.proofs.RouteLaws.{route_of-is, computed}
use Rattle.cache_laws.specs.Serving.{IsServedBy, IsDenied, ServesExactly, DeniesNamesExactly}
use Rattle.cache_laws.specs.Serving.{NoneServesExactly}

served_is : (c : Config) (name : List (List ℕ)) (place : ℕ) → serving_route_of c name ≡ Some place
    → IsServedBy c name place
served_is c name place e =
    let both = serving_is c.routes (route_of c.routes name) place e in
    let found : IsRouteOf c.routes name place = route_found_is_longest c.routes name place both.0 in
    record {
      longest = found;
      serves = serving_denies_nothing c.routes place found.route both.1 found.there;
    }

serves : (c : Config) (name : List (List ℕ)) (place : ℕ) → AllDiffer c.routes → IsServedBy c name place
    → serving_route_of c name ≡ Some place
serves c name place differ h =
    ap (serving c.routes) (sym (computed c.routes name (Some place) differ h.longest))
    ∙ ap (serving_at place) h.longest.there
    ∙ cond-false h.longest.route.deny _ (Some place) h.serves

pub serves_exactly : ServesExactly
serves_exactly = record { only = served_is; each = serves }

-- ---- denied names

denied_is : (c : Config) (name : List (List ℕ)) → is_local c name ≡ true → IsDenied c name
denied_is c name e = by (route_of c.routes name) refl e
  where
    by : (o : Option ℕ) → route_of c.routes name ≡ o → denies c.routes o ≡ true → IsDenied c name
    by None is e = absurd (false≢true e)
    by (Some place) is e = let found : IsRouteOf c.routes name place = route_found_is_longest c.routes name place is in
        record { place = place; longest = found; denies = sym (ap denies_at found.there) ∙ e }

denied_test : (c : Config) (name : List (List ℕ)) → AllDiffer c.routes → IsDenied c name → is_local c name ≡ true
denied_test c name differ h =
    ap (denies c.routes) (sym (computed c.routes name (Some h.place) differ h.longest))
    ∙ ap denies_at h.longest.there
    ∙ h.denies

pub denies_names_exactly : DeniesNamesExactly
denies_names_exactly = record { only = denied_is; each = denied_test }

-- ---- names of no route

none_is : (c : Config) (name : List (List ℕ)) → serving_route_of c name ≡ None → is_local c name ≡ false
    → HasNoRoute c.routes name
none_is c name unserved not_local = by (route_of c.routes name) refl
  where
    by : (o : Option ℕ) → route_of c.routes name ≡ o → HasNoRoute c.routes name
    by None is = subst (IsAnswer c.routes name) is (route_of-is c.routes name)
    by (Some place) is = let found : IsRouteOf c.routes name place = route_found_is_longest c.routes name place is in
        elim (cases_Bool found.route.deny) [
          | inl deny ↦ absurd (false≢true (sym not_local ∙ ap (denies c.routes) is ∙ ap denies_at found.there ∙ deny))
          | inr serve ↦ absurd (let wrong : None ≡ Some place = sym unserved ∙ ap (serving c.routes) is
              ∙ ap (serving_at place) found.there ∙ cond-false found.route.deny _ (Some place) serve in cc)
        ]

none_test : (c : Config) (name : List (List ℕ)) → HasNoRoute c.routes name
    → (serving_route_of c name ≡ None) × (is_local c name ≡ false)
none_test c name none = (ap (serving c.routes) no_route, ap (denies c.routes) no_route)
  where
    by : (o : Option ℕ) → route_of c.routes name ≡ o → route_of c.routes name ≡ None
    by None is = is
    by (Some place) is = let found : IsRouteOf c.routes name place = route_found_is_longest c.routes name place is in
        absurd (none place found.route found.there found.under)

    no_route : route_of c.routes name ≡ None
    no_route = by (route_of c.routes name) refl

pub none_serves_exactly : NoneServesExactly
none_serves_exactly = record { only = none_is; each = none_test }

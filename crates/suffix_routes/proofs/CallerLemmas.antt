-- Lemmas on routes for the proofs of crates above.
use Rattle.std.proofs.Common.{◌≡◌, ℕ, ◌<◌, ◌≤◌, true, false, List, length, Option, Some, None, ap, arith, inl, inr}
use Rattle.std.proofs.lemmas.Bool.{cases_Bool}
use Rattle.std.specs.Prelude.{slice_get}
use Rattle.std.specs.List.{AllByRecursion}
use Rattle.dns_name.specs.Labels.{IsSame, IsUnder, lowered, size_of}
use Rattle.suffix_routes.specs.Values.{Route, IsRoute, AllDiffer}
use Rattle.suffix_routes.specs.Routes.{IsRouteOf, route_of, serving, denies, is_denied}
use Rattle.suffix_routes.specs.Laws.{NothingIsDenied}
use Rattle.suffix_routes.proofs.RouteLaws as routes
use Rattle.suffix_routes.proofs.ServingLaws as those_that_serve

-- equal names have the same route
pub route_of_respects_same : (routes : List Route) (n m : List (List ℕ)) → IsSame n m → route_of routes n ≡ route_of routes m
route_of_respects_same = routes.route_of-same

-- a name and its key have the same route
pub route_of_lowered : (routes : List Route) (name : List (List ℕ)) → route_of routes (lowered name) ≡ route_of routes name
route_of_lowered = routes.route_of-lowered

-- the route of a name is listed, with the longest suffix above the name
pub route_found_is_longest : (routes : List Route) (name : List (List ℕ)) (place : ℕ) → route_of routes name ≡ Some place → IsRouteOf routes name place
route_found_is_longest = routes.route_of-some

-- the place of a name's route is within the routes
pub route_found_within : (routes : List Route) (name : List (List ℕ)) (place : ℕ) → route_of routes name ≡ Some place → place < length routes
route_found_within = routes.route_of-within

-- if each listed route is well formed, so is the route at a place
pub route_at_place_is_route : (routes : List Route) (place : ℕ) (route : Route) → AllByRecursion IsRoute routes → slice_get routes place ≡ Some route → IsRoute route
route_at_place_is_route = routes.route_holds

-- a name has the route of a name above it if no suffix of the name has more octets than the name
-- above, and otherwise another route
pub routes_above_same : (routes : List Route) (name above : List (List ℕ)) → AllDiffer routes → IsUnder name above
    → ((k : ℕ) (other : Route) → slice_get routes k ≡ Some other → IsUnder name other.suffix → size_of other.suffix ≤ size_of above)
    → route_of routes above ≡ route_of routes name
routes_above_same = routes.route_of-above

pub routes_above_differ : (routes : List Route) (name above : List (List ℕ)) (k : ℕ) (other : Route) → IsUnder name above
    → slice_get routes k ≡ Some other → IsUnder name other.suffix → size_of above < size_of other.suffix
    → route_of routes above ≡ route_of routes name → ⊥
routes_above_differ = routes.route_of-longer

-- ---- serving routes

-- the serving route of a name is the name's route, and serves
pub serving_is : (routes : List Route) (place : Option ℕ) (found : ℕ) → serving routes place ≡ Some found → (place ≡ Some found) × (serving routes (Some found) ≡ Some found)
serving_is = those_that_serve.serving_is

-- a serving route does not deny
pub serving_denies_nothing : (routes : List Route) (place : ℕ) (route : Route) → serving routes (Some place) ≡ Some place → slice_get routes place ≡ Some route → route.deny ≡ false
serving_denies_nothing = those_that_serve.serving_denies_nothing

-- equal names have the same serving route, or none
pub serving_respects_same : (routes : List Route) (n m : List (List ℕ)) → IsSame n m → serving routes (route_of routes n) ≡ serving routes (route_of routes m)
serving_respects_same routes n m same = ap (serving routes) (route_of_respects_same routes n m same)

pub serving_lowered : (routes : List Route) (name : List (List ℕ)) → serving routes (route_of routes (lowered name)) ≡ serving routes (route_of routes name)
serving_lowered routes name = ap (serving routes) (route_of_lowered routes name)

-- equal names are denied alike
pub denied_respects_same : (routes : List Route) (n m : List (List ℕ)) → IsSame n m → is_denied routes n ≡ is_denied routes m
denied_respects_same routes n m same = ap (denies routes) (route_of_respects_same routes n m same)

pub denied_lowered : (routes : List Route) (name : List (List ℕ)) → is_denied routes (lowered name) ≡ is_denied routes name
denied_lowered routes name = ap (denies routes) (route_of_lowered routes name)

-- a denied name is served by no route
pub denied_is_not_served : (routes : List Route) (name : List (List ℕ)) → is_denied routes name ≡ true → serving routes (route_of routes name) ≡ None
denied_is_not_served routes name is = those_that_serve.denies_serves_not routes (route_of routes name) is

-- a route, denying or not, has at most 8 servers
pub route_has_few_servers : (route : Route) → IsRoute route → length route.servers ≤ 8
route_has_few_servers route is =
    elim (cases_Bool route.deny) [
      | inl deny ↦ omega (arith, is.denies deny)
      | inr serve ↦ (is.serves serve).1
    ]

-- if no route denies, each name is served by its route, and none is denied
pub nothing_is_denied : NothingIsDenied
nothing_is_denied = those_that_serve.nothing_is_denied

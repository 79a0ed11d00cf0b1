-- Serving routes, and denying routes.
use Rattle.std.proofs.Common.{◌≡◌, ℕ, Bool, true, false, List, [], ◌∷◌, Option, Some, None, refl, sym, ap, subst, ◌∙◌}
use Rattle.std.specs.Prelude.{slice_get, if◌then◌else◌}
use Rattle.suffix_routes.specs.declared.peer.Peer.{Peer}
use Rattle.suffix_routes.specs.Values.{Route}
use Rattle.suffix_routes.specs.Routes.{serving, serving_at, denies, denies_at, is_denied, route_of}
use Rattle.suffix_routes.specs.Laws.{NothingIsDenied}
use Rattle.suffix_routes.proofs.RouteLaws.{route_of-some, all_hold}

by_test : (b : Bool) (place found : ℕ) → (if b then None else Some place) ≡ Some found → (b ≡ false) × (place ≡ found)
by_test true place found e = absurd (cc)
by_test false place found e = (refl, cc)

at_place : (place found : ℕ) (o : Option Route) → serving_at place o ≡ Some found → place ≡ found
at_place place found None e = absurd (cc)
at_place place found (Some r) e = (by_test r.deny place found e).1

pub serving_is : (routes : List Route) (place : Option ℕ) (found : ℕ) → serving routes place ≡ Some found → (place ≡ Some found) × (serving routes (Some found) ≡ Some found)
serving_is routes None found e = absurd (cc)
serving_is routes (Some place) found e =
    let same = at_place place found (slice_get routes place) e in
    (ap Some same, subst (λ (p : ℕ). serving routes (Some p) ≡ Some found) same e)

serves_there : (place : ℕ) (route : Route) (o : Option Route) → serving_at place o ≡ Some place → o ≡ Some route → route.deny ≡ false
serves_there place route None e there = absurd (cc)
serves_there place route (Some r) e there =
    let is : r ≡ route = cc in
    subst (λ (x : Route). x.deny ≡ false) is (by_test r.deny place place e).0

pub serving_denies_nothing : (routes : List Route) (place : ℕ) (route : Route) → serving routes (Some place) ≡ Some place → slice_get routes place ≡ Some route → route.deny ≡ false
serving_denies_nothing routes place route e there = serves_there place route (slice_get routes place) e there

by_deny : (b : Bool) (place : ℕ) → b ≡ true → (if b then None else Some place) ≡ None
by_deny true place e = refl
by_deny false place e = absurd (cc)

denies_serves_not_at : (place : ℕ) (o : Option Route) → denies_at o ≡ true → serving_at place o ≡ None
denies_serves_not_at place None e = refl
denies_serves_not_at place (Some r) e = by_deny r.deny place e

-- a denying route serves nothing
pub denies_serves_not : (routes : List Route) (place : Option ℕ) → denies routes place ≡ true → serving routes place ≡ None
denies_serves_not routes None e = refl
denies_serves_not routes (Some place) e = denies_serves_not_at place (slice_get routes place) e

by_no_deny : (b : Bool) (place : ℕ) → b ≡ false → (if b then None else Some place) ≡ Some place
by_no_deny true place e = absurd (cc)
by_no_deny false place e = refl

all_serve_at : (place : ℕ) (o : Option Route) (r : Route) → o ≡ Some r → r.deny ≡ false → (serving_at place o ≡ Some place) × (denies_at o ≡ false)
all_serve_at place None r is e = absurd (cc)
all_serve_at place (Some x) r is e =
    let no : x.deny ≡ false = (let same : r ≡ x = cc in subst (λ (y : Route). y.deny ≡ false) same e) in
    (by_no_deny x.deny place no, no)

-- if no route denies, no name's route denies
pub nothing_is_denied : NothingIsDenied
nothing_is_denied config name neither = by (route_of config.routes name) refl
  where
    by : (place : Option ℕ) → route_of config.routes name ≡ place → (serving config.routes place ≡ place) × (denies config.routes place ≡ false)
    by None is = (refl, refl)
    by (Some place) is =
        let found = route_of-some config.routes name place is in
        all_serve_at place (slice_get config.routes place) found.route found.there (all_hold (λ r. r.deny ≡ false) config.routes place found.route neither.routes found.there)

-- ---- worked routes

abbrev nobody : Peer
nobody = record { ip = []; port = 53 }

-- names under b are denied, except for names under a.b
abbrev routes : List Route
routes =
    record { suffix = []; deny = false; servers = nobody ∷ [] }
    ∷ record { suffix = (98 ∷ []) ∷ []; deny = true; servers = [] }
    ∷ record { suffix = (97 ∷ []) ∷ (98 ∷ []) ∷ []; deny = false; servers = nobody ∷ [] }
    ∷ []

-- c is served by the first route, and c.b by none, in spite of its route
served : serving routes (route_of routes ((99 ∷ []) ∷ [])) ≡ Some 0
unfolding route_of
served = refl

denied : serving routes (route_of routes ((99 ∷ []) ∷ (98 ∷ []) ∷ [])) ≡ None
unfolding route_of
denied = refl

has_a_route : route_of routes ((99 ∷ []) ∷ (98 ∷ []) ∷ []) ≡ Some 1
unfolding route_of
has_a_route = refl

-- c.a.b is served by the longer route, in any letter case
served_below : serving routes (route_of routes ((67 ∷ []) ∷ (65 ∷ []) ∷ (66 ∷ []) ∷ [])) ≡ Some 2
unfolding route_of
served_below = refl

-- c.b is denied, in any letter case; c and c.a.b are not, nor is a name without a route
is_denied_below : is_denied routes ((99 ∷ []) ∷ (66 ∷ []) ∷ []) ≡ true
unfolding route_of
is_denied_below = refl

is_served_above : is_denied routes ((99 ∷ []) ∷ []) ≡ false
unfolding route_of
is_served_above = refl

is_served_on_the_longer : is_denied routes ((99 ∷ []) ∷ (97 ∷ []) ∷ (98 ∷ []) ∷ []) ≡ false
unfolding route_of
is_served_on_the_longer = refl

has_no_route : is_denied [] ((99 ∷ []) ∷ []) ≡ false
unfolding route_of
has_no_route = refl

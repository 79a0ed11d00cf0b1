-- The route that serves or denies a name.
use Rattle.std.specs.Prelude.{◌≡◌, ℕ, true, false, List, Some, None}
use Rattle.suffix_routes.specs.Values.{Config, AllDiffer}
use Rattle.suffix_routes.specs.Routes.{IsRouteOf, HasNoRoute}
use Rattle.suffix_routes.specs.Serving.{serving_route_of, is_local}

-- the route at this place has the longest suffix of the name, by labels, and does not deny
pub record IsServedBy (c : Config) (name : List (List ℕ)) (place : ℕ) : Type 0 where
  pub longest : IsRouteOf c.routes name place
  pub serves : longest.route.deny ≡ false

-- the route with the longest suffix of the name, by labels, denies
pub record IsDenied (c : Config) (name : List (List ℕ)) : Type 0 where
  pub place : ℕ
  pub longest : IsRouteOf c.routes name place
  pub denies : longest.route.deny ≡ true

-- `serving_route_of` gives a route that serves the name. If no two routes have the same suffix, as
-- in each accepted configuration, there is no other such route.
pub record ServesExactly : Type 0 where
  pub only : (c : Config) (name : List (List ℕ)) (place : ℕ) → serving_route_of c name ≡ Some place
      → IsServedBy c name place
  pub each : (c : Config) (name : List (List ℕ)) (place : ℕ) → AllDiffer c.routes → IsServedBy c name place
      → serving_route_of c name ≡ Some place

-- `is_local` is true of a name that is denied. If no two routes have the same suffix, it is true of
-- each.
pub record DeniesNamesExactly : Type 0 where
  pub only : (c : Config) (name : List (List ℕ)) → is_local c name ≡ true → IsDenied c name
  pub each : (c : Config) (name : List (List ℕ)) → AllDiffer c.routes → IsDenied c name → is_local c name ≡ true

-- A name that is neither served nor denied is under no route's suffix, and no other name is so.
pub record NoneServesExactly : Type 0 where
  pub only : (c : Config) (name : List (List ℕ)) → serving_route_of c name ≡ None → is_local c name ≡ false
      → HasNoRoute c.routes name
  pub each : (c : Config) (name : List (List ℕ)) → HasNoRoute c.routes name
      → (serving_route_of c name ≡ None) × (is_local c name ≡ false)

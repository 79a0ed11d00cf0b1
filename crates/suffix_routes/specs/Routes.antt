-- The route of a name.
use Rattle.std.specs.Prelude.{◌≡◌, ℕ, ◌≤◌, Bool, false, if◌then◌else◌, List, [], ◌∷◌, length, slice_get, position}
use Rattle.std.specs.Prelude.{Option, Some, None}
use Rattle.dns_name.specs.Labels.{IsUnder, same}
use Rattle.suffix_routes.specs.Values.{Route}

-- the name is under the suffix of the route at this place, and under no suffix with more labels
pub record IsRouteOf (routes : List Route) (name : List (List ℕ)) (place : ℕ) : Type 0 where
  pub route : Route
  pub there : slice_get routes place ≡ Some route
  pub under : IsUnder name route.suffix
  pub most : (k : ℕ) (other : Route) → slice_get routes k ≡ Some other → IsUnder name other.suffix
      → length other.suffix ≤ length route.suffix

-- the name is under no suffix
abbrev pub HasNoRoute : List Route → List (List ℕ) → Type 0
HasNoRoute routes name = (k : ℕ) (other : Route) → slice_get routes k ≡ Some other → IsUnder name other.suffix → ⊥

-- the configured suffix with the most labels above the name, or none
abbrev pub IsAnswer : List Route → List (List ℕ) → Option ℕ → Type 0
IsAnswer routes name (Some place) = IsRouteOf routes name place
IsAnswer routes name None = HasNoRoute routes name

-- the place of the route with exactly this suffix
abbrev pub route_at : List Route → List (List ℕ) → Option ℕ
route_at routes name = position (λ r. same name r.suffix) routes

-- the first place, or the second without a first
abbrev pub place_or : Option ℕ → Option ℕ → Option ℕ
place_or (Some place) next = Some place
place_or None next = next

-- computed: the route with this suffix, if any, otherwise the route of the name without its first
-- label
unfoldable pub route_of : List Route → List (List ℕ) → Option ℕ
route_of routes [] = route_at routes []
route_of routes (label ∷ labels) = place_or (route_at routes (label ∷ labels)) (route_of routes labels)

-- the place of a route that serves names; none if the route denies
abbrev pub serving_at : ℕ → Option Route → Option ℕ
serving_at place None = None
serving_at place (Some r) = if r.deny then None else Some place

-- a route by its place, unless denying
abbrev pub serving : List Route → Option ℕ → Option ℕ
serving routes None = None
serving routes (Some place) = serving_at place (slice_get routes place)

-- the route is there and denies
abbrev pub denies_at : Option Route → Bool
denies_at None = false
denies_at (Some r) = r.deny

-- the route at this place, if any, denies
abbrev pub denies : List Route → Option ℕ → Bool
denies routes None = false
denies routes (Some place) = denies_at (slice_get routes place)

-- the name's route denies: the configuration itself answers that there is no such name (RFC 6761
-- 6.4)
abbrev pub is_denied : List Route → List (List ℕ) → Bool
is_denied routes name = denies routes (route_of routes name)

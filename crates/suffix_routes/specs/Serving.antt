-- The route of a configuration that serves a name, and denied names.
use Rattle.std.specs.Prelude.{ℕ, Bool, true, false, List, Option, Some, None}
use Rattle.suffix_routes.specs.Values.{Config}
use Rattle.suffix_routes.specs.Routes.{route_of, serving, is_denied}
use Rattle.suffix_routes.specs.declared.routing.Routing.{Routing}
use Rattle.suffix_routes.specs.declared.routing.Routing.TheVariants as routing

-- the place of the longest suffix, by labels, above the name, unless its route denies
abbrev pub serving_route_of : Config → List (List ℕ) → Option ℕ
serving_route_of config name = serving config.routes (route_of config.routes name)

-- the name's route denies: the configuration itself answers
abbrev pub is_local : Config → List (List ℕ) → Bool
is_local config name = is_denied config.routes name

-- the serving route of this routing
abbrev pub served_by : Routing → Option ℕ
served_by (routing.Served place) = Some place
served_by routing.Denied = None
served_by routing.None = None

-- whether this routing denies
abbrev pub denied_by : Routing → Bool
denied_by (routing.Served place) = false
denied_by routing.Denied = true
denied_by routing.None = false

-- The law: a configuration of version 1 has nothing of version 2.
use Rattle.std.specs.Prelude.{◌≡◌, ℕ, false, List, Ok}
use Rattle.suffix_routes.specs.declared.version.Version.TheVariants.{One}
use Rattle.suffix_routes.specs.Values.{Config, HasNeither}
use Rattle.suffix_routes.specs.Routes.{route_of}
use Rattle.suffix_routes.specs.Serving.{serving_route_of, is_local}
use Rattle.suffix_routes.specs.Reading.{IsTextOf, IsReadIn}

-- an accepted text of version 1 has no window and no denying route
abbrev pub FirstVersionHasNeither : Type 0
FirstVersionHasNeither = (text : List ℕ) (config : Config) → IsTextOf One text → IsReadIn text (Ok config)
    → HasNeither config

-- If no route denies, each name is served by its route, and none is denied.
abbrev pub NothingIsDenied : Type 0
NothingIsDenied = (config : Config) (name : List (List ℕ)) → HasNeither config
    → (serving_route_of config name ≡ route_of config.routes name) × (is_local config name ≡ false)

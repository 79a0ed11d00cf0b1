use Rattle.std.proofs.Common.{◌≡◌, [], map, drop}
use Rattle.toml.specs.View.{view}
use Rattle.suffix_routes.specs.Reading.{routes_after}
use Rattle.suffix_routes.proofs.read_route.read_each_route.Given as goal

abbrev pub invariant-loop-item : goal.invariant-loop-item
invariant-loop-item g l = routes_after l.version l.routes (map view (drop l.item-index l.items)) ≡ routes_after l.version [] (map view l.items)

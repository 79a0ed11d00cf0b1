use Rattle.std.proofs.Common.{◌≡◌, [], length, map, drop}
use Rattle.toml.specs.View.{view}
use Rattle.suffix_routes.specs.Reading.{servers_after}
use Rattle.suffix_routes.proofs.read_route.read_each_server.Given as goal

abbrev pub invariant-loop-place : goal.invariant-loop-place
invariant-loop-place g l = (length l.servers ≡ l.place) × (servers_after l.route l.servers (map view (drop l.place l.items)) ≡ servers_after l.route [] (map view l.items))

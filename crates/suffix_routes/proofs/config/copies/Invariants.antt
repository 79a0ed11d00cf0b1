use Rattle.std.proofs.Common.{◌≡◌, take}
use Rattle.suffix_routes.proofs.config.copies.Given as goal

abbrev pub invariant-loop-route : goal.invariant-loop-route
invariant-loop-route g l = l.copies ≡ take l.route-index l.routes

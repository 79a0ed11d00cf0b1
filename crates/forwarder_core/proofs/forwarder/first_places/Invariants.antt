use Rattle.std.proofs.Common.{◌≡◌, take}
use Rattle.std.specs.Prelude.{map}
use Rattle.forwarder_core.proofs.forwarder.first_places.Given as goal

abbrev pub invariant-loop-route : goal.invariant-loop-route
invariant-loop-route g l = l.places.items ≡ map (λ r. 0) (take l._route-index l.routes)

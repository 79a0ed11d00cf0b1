use Rattle.std.proofs.Common.{◌≡◌, ◌++◌, take, drop}
use Rattle.std.specs.Prelude.{map}
use Rattle.forwarder_core.proofs.forwarder.forget_places.Given as goal

abbrev pub invariant-loop-route : goal.invariant-loop-route
invariant-loop-route l = l.places ≡ map (λ p. 0) (take l.route l.fn.places) ++ drop l.route l.fn.places

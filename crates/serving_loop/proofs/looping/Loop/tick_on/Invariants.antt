use Rattle.serving_loop.specs.Serving.{standing, left}
use Rattle.serving_loop.proofs.Handling.{TicksSoFar}
use Rattle.serving_loop.proofs.looping.Loop.tick_on.Given as goal

abbrev pub invariant-loop : goal.invariant-loop
invariant-loop g l = TicksSoFar (standing g.W.Wire.report g.W.Wire.fault_count l.fn.self) (standing g.W.Wire.report g.W.Wire.fault_count l.self)

abbrev pub decreases-loop : goal.decreases-loop
decreases-loop g l = left l.self.forwarder.now

use Rattle.std.proofs.Common.{◌+◌, ◌*◌}
use Rattle.step_values.specs.Values.{event_of}
use Rattle.serving_loop.specs.Serving.{standing, left}
use Rattle.serving_loop.proofs.Handling.{HandsSoFar, if_failed}
use Rattle.serving_loop.proofs.looping.Loop.hand_on.Given as goal

abbrev pub invariant-loop-failed : goal.invariant-loop-failed
invariant-loop-failed g l = HandsSoFar (event_of l.fn.event) l.handled.more l.failed (standing g.W.Wire.report g.W.Wire.fault_count l.fn.self) (standing g.W.Wire.report g.W.Wire.fault_count l.self)

abbrev pub decreases-loop-failed : goal.decreases-loop-failed
decreases-loop-failed g l = 2 * left l.self.forwarder.now + if_failed l.failed

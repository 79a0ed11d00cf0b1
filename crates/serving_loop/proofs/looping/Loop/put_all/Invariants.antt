use Rattle.std.proofs.Common.{take, None}
use Rattle.step_values.specs.Values.{actions_of}
use Rattle.serving_loop.specs.Serving.{standing}
use Rattle.serving_loop.specs.Handing.{Puts}
use Rattle.serving_loop.proofs.looping.Loop.put_all.Given as goal

abbrev pub invariant-loop-place : goal.invariant-loop-place
invariant-loop-place g l =
    Puts None (actions_of (take l.place l.actions)) l.failed (standing g.W.Wire.report g.W.Wire.fault_count l.fn.self) (standing g.W.Wire.report g.W.Wire.fault_count l.self)

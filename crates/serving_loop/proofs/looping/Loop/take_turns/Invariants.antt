use Rattle.serving_loop.specs.Serving.{standing}
use Rattle.serving_loop.proofs.Turns.{TurnsSoFar}
use Rattle.serving_loop.proofs.looping.Loop.take_turns.Given as goal

abbrev pub invariant-loop-turn : goal.invariant-loop-turn
invariant-loop-turn g l = TurnsSoFar l._turn l.streams (standing g.W.Wire.report g.W.Wire.fault_count l.fn.self) (standing g.W.Wire.report g.W.Wire.fault_count l.self)

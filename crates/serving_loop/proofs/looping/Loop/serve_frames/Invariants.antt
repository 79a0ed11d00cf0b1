use Rattle.std.proofs.Common.{length}
use Rattle.serving_loop.specs.Serving.{standing}
use Rattle.serving_loop.proofs.Framing.{FramesSoFar}
use Rattle.serving_loop.proofs.looping.Loop.serve_frames.Given as goal

abbrev pub invariant-loop-message : goal.invariant-loop-message
invariant-loop-message g l = FramesSoFar l.fn.sender l.fn.reader l.reader (standing g.W.Wire.report g.W.Wire.fault_count l.fn.self) (standing g.W.Wire.report g.W.Wire.fault_count l.self)

abbrev pub decreases-loop-message : goal.decreases-loop-message
decreases-loop-message g l = length l.reader

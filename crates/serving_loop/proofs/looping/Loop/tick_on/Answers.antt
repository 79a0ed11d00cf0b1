use Rattle.serving_loop.proofs.Handling.{ticks_again, ticks_end, ticks_none}
use Rattle.serving_loop.proofs.looping.Loop.tick_on.Goals as goal

pub loop-init : goal.loop-init
loop-init g c = ticks_none _

pub loop-preserved : goal.loop-preserved
loop-preserved g c = ticks_again _ _ _ _ c.loop-test.true c.loop.invariant c.hand_on.ensures

pub returns : goal.returns
returns g c = ticks_end _ _ _ _ c.loop-test.false c.loop.invariant c.hand_on.ensures

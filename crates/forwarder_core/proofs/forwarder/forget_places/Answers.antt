use Rattle.forwarder_core.proofs.KeptLaws.{zeros_step}
use Rattle.forwarder_core.proofs.forwarder.forget_places.Goals as goal

pub loop-route-preserved : goal.loop-route-preserved
loop-route-preserved c = zeros_step c.args.places.now c.loop-route.places c.loop-route.route c.loop-route.invariant c.loop-route-test.true

use Rattle.std.proofs.Common.{sym, subst, List}
use Rattle.step_values.specs.Values.{Step}
use Rattle.serving_loop.specs.TheoremUse.Service.{ComesTo}
use Rattle.network_model.proofs.recorded.Recorded.new.Goals as goal

pub invariant_of-result : goal.invariant_of-result
invariant_of-result g c =
    subst (λ (steps : List Step). ComesTo c.in_ok-forwarder.forwarder.config steps c.in_ok-forwarder.forwarder.state)
    (sym c.new-2.ensures.items) c.in_ok-forwarder.ensures.new_run

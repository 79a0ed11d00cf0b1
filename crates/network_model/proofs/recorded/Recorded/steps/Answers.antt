use Rattle.std.proofs.Common.{List, sym, ap, subst}
use Rattle.suffix_routes.specs.Values.{Config}
use Rattle.step_values.specs.Values.{Step}
use Rattle.serving_loop.specs.TheoremUse.Service.{ServesTruly}
use Rattle.serving_loop.proofs.TheoremUse.CallerLemmas.{run_serves_truly}
use Rattle.network_model.specs.Recordings.{Recording}
use Rattle.network_model.proofs.recorded.Recorded.steps.Goals as goal

pub returns-clause-truly : goal.returns-clause-truly
returns-clause-truly g c =
    let config = ap (λ (r : Recording). r.running.config) c.self.view_is in
    let own = c.self.inside in
    subst (λ (p : Config × List Step). ServesTruly p.0 p.1) (λ i. (config i, sym c.as_slice.ensures.value i))
    (run_serves_truly own.forwarder.config own.steps.items own.forwarder.state c.self.invariant)

use Rattle.std.proofs.Common.{rules}
use Rattle.step_actions.proofs.CallerLemmas.{decides_by}
use Rattle.client_decisions.proofs.client.serve.Goals as goal

pub returns-then-is_not_served : goal.returns-then-is_not_served
returns-then-is_not_served g c = record {
  decides = decides_by c.refuse.result _ _ _ c.refuse.ensures.decides (λ rooms. search rules);
}

pub returns : goal.returns
returns g c = record {
  decides = decides_by c.look.result _ _ _ c.look.ensures.decides (λ rooms. search rules);
}

use Rattle.std.proofs.Common.{rules}
use Rattle.step_actions.proofs.CallerLemmas.{decides_by}
use Rattle.client_decisions.proofs.client.refuse_message.Goals as goal

pub returns : goal.returns
returns g c = record {
  decides = decides_by c.reply.result _ _ _ c.reply.ensures.decides (λ rooms. search rules);
}

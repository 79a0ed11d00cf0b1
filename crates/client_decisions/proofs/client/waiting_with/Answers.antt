use Rattle.std.proofs.Common.{Some, ◌∙◌}
use Rattle.std.proofs.lemmas.Result.{IfOk-weaker}
use Rattle.step_actions.specs.WaitingQuestions.Onward.{waits_on}
use Rattle.client_decisions.proofs.client.waiting_with.Goals as goal

pub returns : goal.returns
returns g c =
    IfOk-weaker c.to_waiting-2.result _ _ (λ waiting is.
    is ∙ (λ i. waits_on (Some (c.in_ok-redirected.ensures i)) c.args.request.now)) c.to_waiting-2.ensures

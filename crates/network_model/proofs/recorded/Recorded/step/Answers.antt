use Rattle.std.proofs.Common.{◌∙◌, ap, subst, [], ◌∷◌, ◌++◌, List}
use Rattle.step_values.specs.Values.{StepInput, Step}
use Rattle.step_table.specs.State.{Running}
use Rattle.step_table.specs.Row.{Row}
use Rattle.serving_loop.proofs.TheoremUse.CallerLemmas.{came_more}
use Rattle.network_model.specs.Recordings.{Recording}
use Rattle.network_model.proofs.recorded.Recorded.step.Goals as goal

pub invariant_of-self-2 : goal.invariant_of-self-2
invariant_of-self-2 g c =
    let same = c.input.view_is in
    let before = c.self.inside.forwarder in
    let row = subst (λ (h : StepInput). Row before.config before.state h c.in_ok-outcome.outcome c.step.new.self.state)
    same c.in_ok-outcome.ensures.row in
    let pushed = c.push_reserved.ensures.items ∙ ap (λ (xs : List Step). xs ++ record { input = c.args.input; outcome = c.in_ok-outcome.outcome } ∷ []) c.in_ok-reserve.ensures.items in
    came_more _ _ c.self.inside.steps.items _ _ _ c.args.input c.in_ok-outcome.outcome
    c.in_ok-outcome.ensures.config pushed c.self.invariant row

pub returns-clause-ok : goal.returns-clause-ok
returns-clause-ok g c =
    let same = c.input.view_is in
    let row = subst (λ (h : StepInput). Row c.self.inside.forwarder.config c.self.inside.forwarder.state h c.in_ok-outcome.outcome c.step.new.self.state) same c.in_ok-outcome.ensures.row in (
      c.in_ok-outcome.outcome,
      c.push_reserved.ensures.items ∙ ap (λ (xs : List Step). xs ++ record { input = c.args.input; outcome = c.in_ok-outcome.outcome } ∷ []) (c.in_ok-reserve.ensures.items ∙ ap (λ (r : Recording). r.steps) c.self.view_is),
      subst (λ (r : Running). Row r.config r.state c.args.input c.in_ok-outcome.outcome c.step.new.self.state) (ap (λ (r : Recording). r.running) c.self.view_is) row,
    )

use Rattle.std.proofs.Common.{◌≡◌, ◌∙◌, ◌<◌, ◌≤◌, length, ap, arith, refl}
use Rattle.step_actions.specs.StepTable.State.{StepStart, start}
use Rattle.step_actions.specs.StepTable.Clients.{row_of_waiting, waits_with}
use Rattle.step_actions.specs.StepTable.Steps.{with_promoted}
use Rattle.client_decisions.proofs.Clients.{full_row, waiting_row}
use Rattle.step_actions.proofs.CallerLemmas.{decides_by}
use Rattle.client_decisions.proofs.client.wait.Goals as goal

pub returns : goal.returns
returns g c = record {
  decides =
      let room : length c.args.start.now.state.waiting < c.args.start.now.config.limits.questions =
      (let count = c.len.ensures in let waiting : length c.start.inside.kept.now.waiting.items
      ≡ length c.args.start.now.state.waiting = ap (λ (r : StepStart). length r.state.waiting) c.start.view_is in let limit :
      c.config.inside.limits.questions ≡ c.args.start.now.config.limits.questions =
      (λ i. (c.config.view_is i).limits.questions) ∙ ap (λ (r : StepStart). r.config.limits.questions)
      c.start.view_is in let test = c.if-len-config.false in grind (arith, count, waiting, test, limit)) in
      decides_by c.admit.result _ _ _ (rw c.in_ok-waiting.ensures at c.admit.ensures.decides) (λ rooms.
      waiting_row c.args.start.now.config c.args.start.now.moment c.args.start.now.words
      (waits_with c.args.request.now c.args.looked) (with_promoted c.into_slots-2.result c.args.start.now.state) _ room refl
      ∙ (λ i. row_of_waiting (start c.args.start.now.config c.args.start.now.moment c.args.start.now.words
      (with_promoted (c.into_slots-2.ensures i) c.args.start.now.state)) (waits_with c.args.request.now c.args.looked)));
}

pub returns-then-len-config : goal.returns-then-len-config
returns-then-len-config g c = record {
  decides =
      let full : c.args.start.now.config.limits.questions ≤ length c.args.start.now.state.waiting =
      (let count = c.len.ensures in let waiting : length c.start.inside.kept.now.waiting.items
      ≡ length c.args.start.now.state.waiting = ap (λ (r : StepStart). length r.state.waiting) c.start.view_is in let limit :
      c.config.inside.limits.questions ≡ c.args.start.now.config.limits.questions =
      (λ i. (c.config.view_is i).limits.questions) ∙ ap (λ (r : StepStart). r.config.limits.questions)
      c.start.view_is in let test = c.if-len-config.true in grind (arith, count, waiting, test, limit)) in
      decides_by c.refuse.result _ _ _ c.refuse.ensures.decides (λ rooms.
      full_row c.args.start.now.config c.args.start.now.moment c.args.start.now.words c.args.request.now c.args.looked
      (with_promoted c.into_slots.result c.args.start.now.state) _ full refl
      ∙ (λ i. row_of_waiting (start c.args.start.now.config c.args.start.now.moment c.args.start.now.words
      (with_promoted (c.into_slots.ensures i) c.args.start.now.state)) (waits_with c.args.request.now c.args.looked)));
}

use Rattle.std.proofs.Common.{◌≡◌, ◌∙◌, List, Some, sym, ap, subst}
use Rattle.std.specs.List.{AllByRecursion}
use Rattle.plain_values.specs.Borrowed.{lent}
use Rattle.suffix_routes.specs.Serving.{is_local, serving_route_of}
use Rattle.record_cache.specs.Values.{Held}
use Rattle.answer_builder.specs.Answers.{IsEarlier}
use Rattle.step_values.specs.Values.{Action}
use Rattle.step_texts.specs.StepTable.State.{StepStart}
use Rattle.step_texts.specs.StepTable.Steps.{denied_locally, gets}
use Rattle.step_actions.proofs.Fates.{chain_missed, denied_by_key, denied_fate, served_by_key, served_fate, unrouted_fate}
use Rattle.step_actions.proofs.fate.missed.Goals as goal

pub local_answer-requires : goal.local_answer-requires
local_answer-requires g c =
    subst (λ (r : StepStart). AllByRecursion (IsEarlier r.moment) (lent c.chain.result.now)) (sym c.start.view_is)
    (subst (AllByRecursion (IsEarlier c.args.start.now.moment)) (sym c.chain.ensures.chain) c.requires.earlier)

pub returns-in-Served : goal.returns-in-Served
returns-in-Served g c =
    let l = c.args.looked.now in
    let key = c.key.ensures ∙ ap (λ q. Rattle.dns_name.specs.Labels.lowered q.name) c.wanted-wanted.ensures in
    let served : Some c.in-Served.route ≡ serving_route_of c.args.start.now.config l.wanted.name =
    c.in-Served.ensures.served ∙ served_by_key c.start.inside.config.now _ _ key
    ∙ (λ i. serving_route_of (c.start.view_is i).config l.wanted.name) in (
      served_fate c.args.start.now.config c.args.start.now.moment c.args.request.now l c.in-Served.route c.requires.missed served,
      sym served,
    )

pub returns-in_ok-action-in-Denied : goal.returns-in_ok-action-in-Denied
returns-in_ok-action-in-Denied g c =
    let x = c.args.request.now in
    let l = c.args.looked.now in
    let key = c.key.ensures ∙ ap (λ q. Rattle.dns_name.specs.Labels.lowered q.name) c.wanted-wanted.ensures in
    let held = c.chain.ensures.chain ∙ chain_missed l.held l.met c.requires.missed in
    ap (λ (a : Action). gets a)
    (c.in_ok-action-in-Denied.ensures ∙ (λ i. denied_locally (c.start.view_is i).moment x (held i)))
    ∙ denied_fate c.args.start.now.config c.args.start.now.moment x l c.requires.missed
    (c.in-Denied.ensures.served ∙ served_by_key c.start.inside.config.now _ _ key
    ∙ (λ i. serving_route_of (c.start.view_is i).config l.wanted.name))
    (c.in-Denied.ensures.denied ∙ denied_by_key c.start.inside.config.now _ _ key
    ∙ (λ i. is_local (c.start.view_is i).config l.wanted.name))

pub returns-in_ok-action-in-None : goal.returns-in_ok-action-in-None
returns-in_ok-action-in-None g c =
    let x = c.args.request.now in
    let l = c.args.looked.now in
    let key = c.key.ensures ∙ ap (λ q. Rattle.dns_name.specs.Labels.lowered q.name) c.wanted-wanted.ensures in
    ap (λ (a : Action). gets a) c.in_ok-action-in-None.ensures
    ∙ unrouted_fate c.args.start.now.config c.args.start.now.moment x l c.requires.missed
    (c.in-None.ensures.served ∙ served_by_key c.start.inside.config.now _ _ key
    ∙ (λ i. serving_route_of (c.start.view_is i).config l.wanted.name))
    (c.in-None.ensures.denied ∙ denied_by_key c.start.inside.config.now _ _ key
    ∙ (λ i. is_local (c.start.view_is i).config l.wanted.name))

use Rattle.std.proofs.Common.{◌≡◌, ◌∙◌, ◌≤◌, length, sym, ap, subst, refl, Some, None, arith}
use Rattle.std.specs.Prelude.{nat_le}
use Rattle.std.proofs.lemmas.Bool.{cond-true, le-leb}
use Rattle.outstanding.specs.Lists.{of_question}
use Rattle.step_values.specs.declared.action.Why.TheVariants.{InquiriesFull, NoPort}
use Rattle.suffix_routes.specs.Serving.{serving_route_of}
use Rattle.dns_message.specs.Values.{Question}
use Rattle.step_actions.specs.StepTable.State.{StepStart, start}
use Rattle.step_actions.specs.StepTable.Attempts.{first_ask}
use Rattle.step_actions.specs.StepTable.Steps.{failed, reply_step, with_promoted}
use Rattle.step_actions.specs.Decision.{CanFollow}
use Rattle.client_decisions.proofs.Clients.{opened_row}
use Rattle.step_actions.proofs.StepTable.CallerLemmas.{ask_by-some}
use Rattle.step_actions.proofs.CallerLemmas.{first_follows, decides_by}
use Rattle.client_decisions.proofs.client.ask_anew.Goals as goal

pub returns : goal.returns
returns g c = record {
  decides =
      decides_by c.refuse-in-None.result _ _ _ c.refuse-in-None.ensures.decides (λ rooms.
      (λ i. reply_step c.args.start.now.moment
      (failed (c.request-in-None.ensures.client i) (c.request-in-None.ensures.asked i) NoPort)
      (with_promoted c.args.used c.args.start.now.state))
      ∙ opened_row c.args.start.now.config c.args.start.now.moment c.args.start.now.words c.args.waiting
      c.args.start.now.state c.args.used c.args.route c.wanted.result.now None _
      (let count = c.len.ensures.count ∙ ap (λ (r : StepStart). length r.state.asks) c.start.view_is in let limit : c.config.inside.limits.inquiries
      ≡ c.args.start.now.config.limits.inquiries = (λ i. (c.config.view_is i).limits.inquiries)
      ∙ ap (λ (r : StepStart). r.config.limits.inquiries) c.start.view_is in let test =
      c.if-len-config.false in omega (arith, count, test, limit))
      c.requires.on c.wanted.ensures (sym c.in-None.is ∙ c.in_ok-ask.ensures) refl);
}

pub returns-in-Some : goal.returns-in-Some
returns-in-Some g c = record {
  decides =
      decides_by c.open.result _ _ _ c.open.ensures.decides (λ rooms.
      opened_row c.args.start.now.config c.args.start.now.moment c.args.start.now.words c.args.waiting
      c.args.start.now.state c.args.used c.args.route c.wanted.result.now (Some c.in-Some.ask) _
      (let count = c.len.ensures.count ∙ ap (λ (r : StepStart). length r.state.asks) c.start.view_is in let limit : c.config.inside.limits.inquiries
      ≡ c.args.start.now.config.limits.inquiries = (λ i. (c.config.view_is i).limits.inquiries)
      ∙ ap (λ (r : StepStart). r.config.limits.inquiries) c.start.view_is in let test =
      c.if-len-config.false in omega (arith, count, test, limit))
      c.requires.on c.wanted.ensures (sym c.in-Some.is ∙ c.in_ok-ask.ensures) refl);
}

pub open-requires-clause-follows : goal.open-requires-clause-follows
open-requires-clause-follows g c =
    subst (λ (r : StepStart). CanFollow r.config r.moment r.state r.state.asks c.in-Some.ask) c.start.view_is
    (first_follows c.start.inside.config.now c.start.inside.moment c.start.inside.words c.wanted.result.now c.args.route
    (record {
      cache = c.start.inside.kept.now.cache;
      asks = c.start.inside.kept.now.inquiries.asks;
      waiting = c.start.inside.kept.now.waiting.items;
      preferred = c.start.inside.kept.now.preferred.items;
      moment = c.start.inside.kept.now.moment;
      tcp_asks = c.start.inside.kept.now.tcp_asks;
    }) c.start.inside.kept.now.inquiries c.start.inside.kept.now.preferred.items c.in-Some.ask
    c.start.invariant.0 refl
    (subst (λ (q : Question). serving_route_of c.start.inside.config.now q.name ≡ Some c.args.route) (sym c.wanted.ensures)
    (subst (λ (r : StepStart). serving_route_of r.config c.args.waiting.wanted.name ≡ Some c.args.route)
    (sym c.start.view_is) c.requires.on))
    c.start.invariant.1 c.start.invariant.2
    (subst (λ (q : Question). of_question q c.start.inside.kept.now.inquiries.asks ≡ None) (sym c.wanted.ensures)
    (subst (λ (r : StepStart). of_question c.args.waiting.wanted r.state.asks ≡ None) (sym c.start.view_is) c.requires.new))
    (let count = c.len.ensures.count in let asks : length c.start.inside.kept.now.inquiries.asks
    ≡ length c.args.start.now.state.asks = ap (λ (r : StepStart). length r.state.asks) c.start.view_is in let limit :
    c.config.inside.limits.inquiries ≡ c.start.inside.config.now.limits.inquiries = λ i.
    (c.config.view_is i).limits.inquiries in let test = c.if-len-config.false in omega
    (arith, count, asks, test, limit))
    (sym c.in-Some.is ∙ c.in_ok-ask.ensures ∙ ap (λ (r : StepStart). first_ask
    (start r.config r.moment r.words r.state) c.wanted.result.now c.args.route) (sym c.start.view_is)))

-- the ask is for the wanted question
pub open-requires-clause-same : goal.open-requires-clause-same
open-requires-clause-same g c =
    (ask_by-some c.args.start.now.moment c.wanted.result.now c.args.route _ 1 _ _ c.in-Some.ask
    (sym (sym c.in-Some.is ∙ c.in_ok-ask.ensures))).question ∙ c.wanted.ensures

pub returns-then-len-config : goal.returns-then-len-config
returns-then-len-config g c = record {
  decides =
      let full : c.args.start.now.config.limits.inquiries ≤ length c.args.start.now.state.asks =
      (let count = c.len.ensures.count ∙ ap (λ (r : StepStart). length r.state.asks) c.start.view_is in let limit : c.config.inside.limits.inquiries
      ≡ c.args.start.now.config.limits.inquiries = (λ i. (c.config.view_is i).limits.inquiries)
      ∙ ap (λ (r : StepStart). r.config.limits.inquiries) c.start.view_is in let test =
      c.if-len-config.true in omega (arith, count, test, limit)) in
      decides_by c.refuse.result _ _ _ c.refuse.ensures.decides (λ rooms.
      (λ i. reply_step c.args.start.now.moment
      (failed (c.request.ensures.client i) (c.request.ensures.asked i) InquiriesFull)
      (with_promoted c.args.used c.args.start.now.state))
      ∙ sym (cond-true
      (nat_le c.args.start.now.config.limits.inquiries (length c.args.start.now.state.asks)) _ _
      (le-leb c.args.start.now.config.limits.inquiries (length c.args.start.now.state.asks) full)));
}

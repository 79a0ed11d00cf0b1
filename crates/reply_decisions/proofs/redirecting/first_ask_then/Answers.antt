use Rattle.std.proofs.Common.{◌≡◌, ◌∙◌, sym, ap, None, Some}
use Rattle.std.proofs.lemmas.Result.{IfOk-weaker}
use Rattle.outstanding.specs.Draws.{udp_draw}
use Rattle.outstanding.specs.Lists.{without_path}
use Rattle.outstanding.specs.Values.{Ask}
use Rattle.suffix_routes.specs.Serving.{serving_route_of}
use Rattle.step_table.specs.Attempts.{ask_by, first_ask_on, freed_by, over_udp, peer_at}
use Rattle.step_table.proofs.CallerLemmas.{draws_left}
use Rattle.step_actions.specs.Attempts.{pair_of}
use Rattle.reply_decisions.specs.Redirecting.{closing_state}
use Rattle.reply_decisions.proofs.redirecting.first_ask_then.Goals as goal
use Rattle.step_table.specs.State.{from_state}

pub returns : goal.returns
returns g c =
    let drawn : pair_of c.by_udp-drawn.result ≡ over_udp (udp_draw c.args.start.now.words
    (without_path c.args.answered.now.path c.args.start.now.state.asks) None) =
    c.by_udp-drawn.ensures
    ∙ ap over_udp
    (c.draw.ensures.drawn
    ∙ (λ i. udp_draw (c.start.view_is i).words (c.start.view_is i).state.asks
    ((c.freed_port.ensures ∙ ap (λ (a : Ask). freed_by a.path) (c.ask.view_is ∙ c.ask-ask.ensures)) i))
    ∙ sym (draws_left c.args.start.now.words c.args.answered.now.path c.args.start.now.state.asks)) in
    let on : serving_route_of c.args.start.now.config c.args.question.now.name ≡ Some c.in-Served.route =
    sym (c.in-Served.ensures.served
    ∙ (λ i. serving_route_of (c.start.view_is i).config (c.question.view_is i).name)) in
    IfOk-weaker c.new_ask.result _ _ (λ ask is.
    is
    ∙ (λ i. ask_by c.args.start.now.moment c.args.question.now c.in-Served.route (c.preferred_then.ensures i) 1
    (peer_at c.args.start.now.config c.in-Served.route (c.preferred_then.ensures i)) (drawn i))
    ∙ sym (ap (first_ask_on (from_state (closing_state c.args.answered.now c.args.start.now.state) c.args.start.now)
    c.args.question.now) on))
    c.new_ask.ensures

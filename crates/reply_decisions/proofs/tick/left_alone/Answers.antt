use Rattle.std.proofs.Common.{◌∙◌, ap, sym, drop, Some, None}
use Rattle.std.specs.List.{list_any}
use Rattle.outstanding.specs.Lists.{of_question}
use Rattle.dns_message.specs.Values.{Question}
use Rattle.outstanding.specs.Values.{Ask}
use Rattle.step_table.specs.State.{StepStart}
use Rattle.waiting_questions.specs.Values.{waits_for}
use Rattle.reply_decisions.proofs.Ticks.{alone_is}
use Rattle.reply_decisions.proofs.tick.left_alone.Goals as goal

pub returns-in-Some : goal.returns-in-Some
returns-in-Some g c =
    ap (λ (a : Ask). Some a.path) c.ask.view_is
    ∙ alone_is c.args.oldest.now.wanted (drop 1 c.args.start.now.state.waiting) c.args.start.now.state.asks
    (Some c.in-Some.ask.now)
    (ap (λ (q : Question). list_any (waits_for q) (drop 1 c.args.start.now.state.waiting)) (sym c.wanted.ensures)
    ∙ ap (λ (r : StepStart). list_any (waits_for c.wanted.result.now) (drop 1 r.state.waiting)) (sym c.start.view_is)
    ∙ sym c.is_any_other_for.ensures ∙ c.if-is_any_other_for.false)
    (ap (λ (q : Question). of_question q c.args.start.now.state.asks) (sym c.wanted-2.ensures)
    ∙ ap (λ (r : StepStart). of_question c.wanted-2.result.now r.state.asks) (sym c.start.view_is)
    ∙ c.in-Some.ensures.found c.wanted-2.result.now c.of-key.ensures)

pub returns-in-None : goal.returns-in-None
returns-in-None g c =
    alone_is c.args.oldest.now.wanted (drop 1 c.args.start.now.state.waiting) c.args.start.now.state.asks None
    (ap (λ (q : Question). list_any (waits_for q) (drop 1 c.args.start.now.state.waiting)) (sym c.wanted.ensures)
    ∙ ap (λ (r : StepStart). list_any (waits_for c.wanted.result.now) (drop 1 r.state.waiting)) (sym c.start.view_is)
    ∙ sym c.is_any_other_for.ensures ∙ c.if-is_any_other_for.false)
    (ap (λ (q : Question). of_question q c.args.start.now.state.asks) (sym c.wanted-2.ensures)
    ∙ ap (λ (r : StepStart). of_question c.wanted-2.result.now r.state.asks) (sym c.start.view_is)
    ∙ c.in-None.ensures.found c.wanted-2.result.now c.of-key.ensures)

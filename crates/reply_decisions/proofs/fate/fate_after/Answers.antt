use Rattle.std.proofs.Common.{◌∙◌, sym, ap, subst}
use Rattle.waiting_questions.specs.Onward.{Onward, redirected}
use Rattle.step_table.specs.Clients.{waits_with}
use Rattle.step_table.specs.Steps.{waits}
use Rattle.step_actions.specs.Fates.{IsFate}
use Rattle.step_actions.proofs.CallerLemmas.{waits_missed}
use Rattle.reply_decisions.proofs.Going.{fate_alike}
use Rattle.reply_decisions.proofs.fate.fate_after.Goals as goal

pub redirected-requires : goal.redirected-requires
redirected-requires g c =
    let t = c.args.start.now in
    let x = c.request.result in
    let l = c.args.looked.now in
    waits_missed t.config t.moment x l (waits_with x l) (subst (IsFate t x l) c.in-Waits.is c.in_ok-fate.ensures).0

pub returns-in-Reply : goal.returns-in-Reply
returns-in-Reply g c =
    let l = c.args.looked.now in
    subst (IsFate c.args.start.now c.request.result l) c.in-Reply.is c.in_ok-fate.ensures
    ∙ fate_alike c.args.start.now.config c.args.start.now.moment l c.request.result c.args.waiting.now
    c.request.ensures.client c.request.ensures.asked c.request.ensures.taken

pub returns-in_ok-redirected-in-Waits : goal.returns-in_ok-redirected-in-Waits
returns-in_ok-redirected-in-Waits g c =
    let l = c.args.looked.now in
    let x = c.args.waiting.now in
    ap (λ (s : Onward). waits (redirected s x)) c.in_ok-redirected-in-Waits.ensures
    ∙ (λ i. waits (record {
      client = sym c.request.ensures.client i;
      asked = sym c.request.ensures.asked i;
      taken = sym c.request.ensures.taken i;
      held = l.held;
      wanted = l.wanted;
    }))
    ∙ (subst (IsFate c.args.start.now c.request.result l) c.in-Waits.is c.in_ok-fate.ensures).0
    ∙ fate_alike c.args.start.now.config c.args.start.now.moment l c.request.result x
    c.request.ensures.client c.request.ensures.asked c.request.ensures.taken

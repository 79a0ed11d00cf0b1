use Rattle.std.proofs.Common.{◌∙◌, ◌+◌, ◌∷◌, [], List, drop, ap, sym, arith}
use Rattle.std.proofs.lemmas.List.{at_drop_all}
use Rattle.step_values.specs.Values.{Action, actions_of}
use Rattle.step_texts.specs.StepTable.Steps.{closes, fails}
use Rattle.step_actions.specs.Decision.{with_replies}
use Rattle.step_actions.proofs.Folds.{failures_filter, one_failed}
use Rattle.step_actions.proofs.replies.failures.Goals as goal

pub loop-place-preserved : goal.loop-place-preserved
loop-place-preserved g c =
    ap (λ (actions : List Action). with_replies (fails c.args.why c.args.ask.now.question) actions (drop (c.loop-place.place + 1) c.for_ask-those.result)) c.in_ok-put_failure.ensures
    ∙ one_failed c.args.why c.args.ask.now.question (actions_of c.loop-place.actions) c.args.waiting.now.items c.for_ask-those.result c.loop-place.place c.get.result.now
    c.for_ask-those.ensures c.get.ensures
    ∙ c.loop-place.invariant

pub returns : goal.returns
returns g c =
    let all = at_drop_all (with_replies (fails c.args.why c.args.ask.now.question) (actions_of c.loop-place.actions)) c.for_ask-those.result c.loop-place.place
    (let test = c.loop-place-test.false in let count = c.len-place-end.ensures in omega (arith, test, count)) in
    sym all
    ∙ c.loop-place.invariant
    ∙ ap (with_replies (fails c.args.why c.args.ask.now.question) (closes c.args.ask.now.path ∷ [])) c.for_ask-those.ensures
    ∙ failures_filter c.args.why c.args.ask.now.question (closes c.args.ask.now.path ∷ []) c.args.waiting.now.items

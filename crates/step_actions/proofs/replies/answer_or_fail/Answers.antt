use Rattle.std.proofs.Common.{◌≡◌, ◌∙◌, ◌+◌, ◌<◌, List, length, sym, ap, arith}
use Rattle.std.specs.Prelude.{nat_le}
use Rattle.std.proofs.lemmas.Bool.{cond-false, lt-leb}
use Rattle.std.proofs.lemmas.Result.{IfOk-weaker}
use Rattle.record_cache.specs.Values.{Held}
use Rattle.step_values.specs.declared.action.Why.TheVariants.{ChainLong}
use Rattle.step_texts.specs.StepTable.Steps.{failed}
use Rattle.step_actions.proofs.replies.answer_or_fail.Goals as goal

pub returns-then-saturating_add-clause-says : goal.returns-then-saturating_add-clause-says
returns-then-saturating_add-clause-says g c =
    let many : 9 < length c.args.waiting.now.held + length c.args.answers.now.chain =
    let held : length c.aliases.result.now ≡ length c.args.waiting.now.held = ap (λ (hs : List Held). length hs) c.aliases.ensures.aliases in
    let sum = c.saturating_add.ensures in let test = c.if-saturating_add.true in let pieces = c.pieces.ensures in omega (arith, held, sum, test, pieces) in
    IfOk-weaker c.failure.result _ _
    (λ action e. e ∙ (λ i. failed (c.request.ensures.client i) (c.request.ensures.asked i) ChainLong) ∙ sym (cond-false (nat_le (length c.args.waiting.now.held + length c.args.answers.now.chain) 9) _ _ (lt-leb (length c.args.waiting.now.held + length c.args.answers.now.chain) 9 many)))
    c.failure.ensures

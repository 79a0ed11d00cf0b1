use Rattle.std.proofs.Common.{◌∙◌, length, ap}
use Rattle.std.proofs.lemmas.Result.{IfOk-weaker}
use Rattle.answer_builder.specs.Answers.{sections_with_ttls, with_stale_ttls}
use Rattle.plain_values.specs.Borrowed.{lent}
use Rattle.answer_builder.specs.Transports.{text_of}
use Rattle.step_values.specs.declared.action.Why.TheVariants.{Stale}
use Rattle.step_table.specs.Steps.{sends, transport_of}
use Rattle.step_texts.proofs.stale_answers.stale_answer.Goals as goal

pub returns : goal.returns
returns g c =
    let x = c.args.request.now in
    let told_is = c.deref-2.ensures.value ∙ c.in_ok-pieces.ensures ∙ ap (with_stale_ttls (length c.args.aliases.now) c.args.moment) (ap lent c.deref.ensures.value ∙ c.in_ok-chain.ensures) in
    let sections = c.in_ok-sections.ensures ∙ ap sections_with_ttls told_is in
    IfOk-weaker c.reply.result _ _ (λ action e.
    e ∙ (λ i. sends Stale x (text_of x.asked (sections i) (transport_of x.client)))) c.reply.ensures

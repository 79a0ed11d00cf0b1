use Rattle.std.proofs.Common.{◌∙◌, ap}
use Rattle.std.proofs.lemmas.Result.{IfOk-weaker}
use Rattle.answer_builder.specs.Transports.{text_of}
use Rattle.step_table.specs.WaitingQuestions.Values.{Waiting}
use Rattle.step_table.specs.Steps.{sends, transport_of}
use Rattle.step_texts.specs.Spelling.{sends_text}
use Rattle.step_texts.proofs.Telling.{sent_by}
use Rattle.step_texts.proofs.texts.reply.Goals as goal

pub returns : goal.returns
returns g c =
    let x = c.args.request.now in
    let over = c.transport_of.ensures ∙ ap (λ (w : Waiting). transport_of w.client) c.request.view_is in
    IfOk-weaker c.reply_with.result _ _ (λ action e.
    e
    ∙ ap (sends_text c.args.why x) c.in_ok-text.ensures
    ∙ sent_by c.args.why x _
    ∙ (λ i. sends c.args.why x (text_of x.asked c.args.sections.now (over i)))) c.reply_with.ensures

use Rattle.std.proofs.Common.{◌++◌, ap, ◌∙◌}
use Rattle.std.proofs.lemmas.Result.{IfOk-weaker}
use Rattle.plain_values.specs.Borrowed.{lent}
use Rattle.answer_builder.specs.Transports.{answer_of}
use Rattle.step_values.specs.declared.action.Why.TheVariants.{Answered}
use Rattle.step_table.specs.Steps.{sends, transport_of}
use Rattle.step_texts.specs.Spelling.{Source}
use Rattle.step_texts.proofs.Aliases.{sent_alike}
use Rattle.step_texts.proofs.answers.Answers.reply.Goals as goal

pub returns-clause-reply : goal.returns-clause-reply
returns-clause-reply g c =
    let x = c.args.waiting.now in
    let whole = ap lent c.deref.ensures.value ∙ c.in_ok-whole.ensures ∙ ap (λ held. held ++ lent c.self.inside.chain.now) c.aliases-aliases.ensures.aliases in
    IfOk-weaker c.answer.result _ _
    (λ action e. e ∙ sent_alike c.request.result x _ _ c.self.inside.moment c.request.ensures.client c.request.ensures.asked whole
    ∙ ap (λ (s : Source). sends Answered x (answer_of x.asked (x.held ++ s.chain) s.moment (transport_of x.client))) c.self.view_is)
    c.answer.ensures

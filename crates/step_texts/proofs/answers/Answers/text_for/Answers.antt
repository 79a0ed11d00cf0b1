use Rattle.std.proofs.Common.{◌<◌, ◌∙◌, ap, subst, sym}
use Rattle.std.proofs.lemmas.Result.{IfOk-weaker}
use Rattle.plain_values.specs.Borrowed.{lent}
use Rattle.answer_builder.specs.Transports.{text_of}
use Rattle.answer_builder.specs.Values.{Sections}
use Rattle.step_table.specs.WaitingQuestions.Values.{Waiting}
use Rattle.step_texts.specs.Spelling.{ok_text}
use Rattle.step_texts.proofs.Fronts.{has_front}
use Rattle.step_texts.proofs.TextLaws.{found_text, own_text, spelled_more}
use Rattle.step_texts.proofs.answers.Answers.text_for.Goals as goal

pub repeated-requires : goal.repeated-requires
repeated-requires g c =
    let small = subst (λ (w : Waiting). w.asked.opcode < 16) c.waiting.view_is c.waiting.invariant in
    let asked = sym (ap (λ (w : Waiting). w.asked.question) c.waiting.view_is) in
    let text = found_text (lent c.self.inside.chain.now) c.self.inside.moment c.args.transport c.args.waiting.now.asked c.waiting.inside.question c.self.inside.spelled c.as_slice.result.now c.in-Some.spelled.now small asked c.self.invariant.texts c.as_slice.ensures c.in-Some.ensures in
    has_front (lent c.self.inside.chain.now) c.self.inside.moment c.args.transport c.args.waiting.now.asked c.in-Some.spelled.now.text text

pub returns-in-Some-clause-text : goal.returns-in-Some-clause-text
returns-in-Some-clause-text g c =
    let small = subst (λ (w : Waiting). w.asked.opcode < 16) c.waiting.view_is c.waiting.invariant in
    let asked = sym (ap (λ (w : Waiting). w.asked.question) c.waiting.view_is) in
    let text = found_text (lent c.self.inside.chain.now) c.self.inside.moment c.args.transport c.args.waiting.now.asked c.waiting.inside.question c.self.inside.spelled c.as_slice.result.now c.in-Some.spelled.now small asked c.self.invariant.texts c.as_slice.ensures c.in-Some.ensures in
    rw (← c.self.view_is) (IfOk-weaker c.repeated.result _ _ (λ own e. e ∙ text) (rw c.request-request.ensures.asked at c.repeated.ensures))

pub repeated-requires-2 : goal.repeated-requires-2
repeated-requires-2 g c =
    let small = subst (λ (w : Waiting). w.asked.opcode < 16) c.waiting.view_is c.waiting.invariant in
    let text = own_text (lent c.self.inside.chain.now) c.self.inside.moment c.args.transport c.args.waiting.now.asked c.in_ok-text.text small ((rw c.request-request.ensures.asked at c.in_ok-text.ensures) ∙ ap (λ (s : Sections). ok_text (text_of c.args.waiting.now.asked s c.args.transport)) c.in_ok-sections.ensures) in
    has_front (lent c.self.inside.chain.now) c.self.inside.moment c.args.transport c.args.waiting.now.asked c.in_ok-text.text text

pub invariant_of-self-2 : goal.invariant_of-self-2
invariant_of-self-2 g c =
    let asked = sym (ap (λ (w : Waiting). w.asked.question) c.waiting.view_is) in
    spelled_more (lent c.self.inside.chain.now) c.self.inside.moment c.args.waiting.now.asked c.self.inside.spelled c.push.new.self _ c.self.invariant c.in_ok-push.ensures.ok asked ((rw c.request-request.ensures.asked at c.in_ok-text.ensures) ∙ ap (λ (s : Sections). ok_text (text_of c.args.waiting.now.asked s c.args.transport)) c.in_ok-sections.ensures)

pub returns-clause-text : goal.returns-clause-text
returns-clause-text g c =
    let small = subst (λ (w : Waiting). w.asked.opcode < 16) c.waiting.view_is c.waiting.invariant in
    rw (← c.self.view_is) ((rw c.request-request.ensures.asked at c.in_ok-own.ensures) ∙ own_text (lent c.self.inside.chain.now) c.self.inside.moment c.args.transport c.args.waiting.now.asked c.in_ok-text.text small ((rw c.request-request.ensures.asked at c.in_ok-text.ensures) ∙ ap (λ (s : Sections). ok_text (text_of c.args.waiting.now.asked s c.args.transport)) c.in_ok-sections.ensures))

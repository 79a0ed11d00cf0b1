use Rattle.std.specs.List.{AllByRecursion}
use Rattle.dns_message.specs.Written.{IsQuestion, IsRecord}
use Rattle.std.proofs.Common.{subst, ◌∙◌, ap}
use Rattle.std.proofs.lemmas.Result.{err_from_is_err_and}
use Rattle.dns_message.specs.Values.{Message}
use Rattle.dns_message.specs.Writing.{header_text, question_text, record_text}
use Rattle.dns_message.proofs.writing.WriterRecords.{holds_after, too_large}
use Rattle.dns_message.proofs.writing.WriterMessages.{to_questions, to_answers, to_authority, header_of_lists, header_number, header_refused, questions_refused, answers_refused, authority_refused, additional_refused, section_written}
use Rattle.dns_message.proofs.writing.message.put_message.Goals as goal

pub returns-in_err-check : goal.returns-in_err-check
returns-in_err-check g c =
    let p = err_from_is_err_and c.from_residual-in_err-check.result c.from_residual-in_err-check.ensures.1 in
    rw (p.1, p.2)
    (header_refused c.args.limit c.in_err-check.field-0.0 c.args.writer.now c.args.message.now (too_large c.args.limit c.in_err-check.field-0.0 c.args.writer.now c.put_header.new.writer (header_text c.args.message.now) (header_of_lists c.args.writer.now c.put_header.new.writer c.args.message.now c.message.inside.header c.as_slice-questions.result.now c.as_slice-answers.result.now c.as_slice-authority.result.now c.as_slice-additional.result.now
    (ap (λ (m : Message). m.header) c.message.view_is) (c.as_slice-questions.ensures ∙ ap (λ (m : Message). m.questions) c.message.view_is) (c.as_slice-answers.ensures ∙ ap (λ (m : Message). m.answers) c.message.view_is) (c.as_slice-authority.ensures ∙ ap (λ (m : Message). m.authority) c.message.view_is) (c.as_slice-additional.ensures ∙ ap (λ (m : Message). m.additional) c.message.view_is) c.in_ok-put_header.ensures.0) c.in_err-check.ensures.0 c.in_err-check.ensures.1))

pub returns-in_err-put_questions : goal.returns-in_err-put_questions
returns-in_err-put_questions g c =
    let p = err_from_is_err_and c.from_residual-in_err-put_questions.result c.from_residual-in_err-put_questions.ensures.1 in
    rw (p.1, p.2)
    (questions_refused c.args.limit c.in_err-put_questions.field-0.0 c.args.writer.now c.put_header.new.writer c.args.message.now c.as_slice-questions.result.now (c.as_slice-questions.ensures ∙ ap (λ (m : Message). m.questions) c.message.view_is) (header_of_lists c.args.writer.now c.put_header.new.writer c.args.message.now c.message.inside.header c.as_slice-questions.result.now c.as_slice-answers.result.now c.as_slice-authority.result.now c.as_slice-additional.result.now
    (ap (λ (m : Message). m.header) c.message.view_is) (c.as_slice-questions.ensures ∙ ap (λ (m : Message). m.questions) c.message.view_is) (c.as_slice-answers.ensures ∙ ap (λ (m : Message). m.answers) c.message.view_is) (c.as_slice-authority.ensures ∙ ap (λ (m : Message). m.authority) c.message.view_is) (c.as_slice-additional.ensures ∙ ap (λ (m : Message). m.additional) c.message.view_is) c.in_ok-put_header.ensures.0) c.in_err-put_questions.ensures)

pub returns-in_err-put_records : goal.returns-in_err-put_records
returns-in_err-put_records g c =
    let p = err_from_is_err_and c.from_residual-in_err-put_records.result c.from_residual-in_err-put_records.ensures.1 in
    let questions = section_written c.args.writer.now c.put_header.new.writer c.put_questions.new.writer (header_text c.args.message.now) question_text c.as_slice-questions.result.now c.args.message.now.questions (c.as_slice-questions.ensures ∙ ap (λ (m : Message). m.questions) c.message.view_is) (header_of_lists c.args.writer.now c.put_header.new.writer c.args.message.now c.message.inside.header c.as_slice-questions.result.now c.as_slice-answers.result.now c.as_slice-authority.result.now c.as_slice-additional.result.now
    (ap (λ (m : Message). m.header) c.message.view_is) (c.as_slice-questions.ensures ∙ ap (λ (m : Message). m.questions) c.message.view_is) (c.as_slice-answers.ensures ∙ ap (λ (m : Message). m.answers) c.message.view_is) (c.as_slice-authority.ensures ∙ ap (λ (m : Message). m.authority) c.message.view_is) (c.as_slice-additional.ensures ∙ ap (λ (m : Message). m.additional) c.message.view_is) c.in_ok-put_header.ensures.0) c.in_ok-put_questions.ensures.0 in
    rw (p.1, p.2)
    (answers_refused c.args.limit c.in_err-put_records.field-0.0 c.args.writer.now c.put_questions.new.writer c.args.message.now c.as_slice-answers.result.now (c.as_slice-answers.ensures ∙ ap (λ (m : Message). m.answers) c.message.view_is) questions c.in_err-put_records.ensures)

pub returns-in_err-put_records-2 : goal.returns-in_err-put_records-2
returns-in_err-put_records-2 g c =
    let p = err_from_is_err_and c.from_residual-in_err-put_records-2.result c.from_residual-in_err-put_records-2.ensures.1 in
    let questions = section_written c.args.writer.now c.put_header.new.writer c.put_questions.new.writer (header_text c.args.message.now) question_text c.as_slice-questions.result.now c.args.message.now.questions (c.as_slice-questions.ensures ∙ ap (λ (m : Message). m.questions) c.message.view_is) (header_of_lists c.args.writer.now c.put_header.new.writer c.args.message.now c.message.inside.header c.as_slice-questions.result.now c.as_slice-answers.result.now c.as_slice-authority.result.now c.as_slice-additional.result.now
    (ap (λ (m : Message). m.header) c.message.view_is) (c.as_slice-questions.ensures ∙ ap (λ (m : Message). m.questions) c.message.view_is) (c.as_slice-answers.ensures ∙ ap (λ (m : Message). m.answers) c.message.view_is) (c.as_slice-authority.ensures ∙ ap (λ (m : Message). m.authority) c.message.view_is) (c.as_slice-additional.ensures ∙ ap (λ (m : Message). m.additional) c.message.view_is) c.in_ok-put_header.ensures.0) c.in_ok-put_questions.ensures.0 in
    let answers = section_written c.args.writer.now c.put_questions.new.writer c.put_records.new.writer (to_questions c.args.message.now) record_text c.as_slice-answers.result.now c.args.message.now.answers (c.as_slice-answers.ensures ∙ ap (λ (m : Message). m.answers) c.message.view_is) questions c.in_ok-put_records.ensures.0 in
    rw (p.1, p.2)
    (authority_refused c.args.limit c.in_err-put_records-2.field-0.0 c.args.writer.now c.put_records.new.writer c.args.message.now c.as_slice-authority.result.now (c.as_slice-authority.ensures ∙ ap (λ (m : Message). m.authority) c.message.view_is) answers c.in_err-put_records-2.ensures)

pub returns-in_err-put_records-3 : goal.returns-in_err-put_records-3
returns-in_err-put_records-3 g c =
    let p = err_from_is_err_and c.from_residual-in_err-put_records-3.result c.from_residual-in_err-put_records-3.ensures.1 in
    let questions = section_written c.args.writer.now c.put_header.new.writer c.put_questions.new.writer (header_text c.args.message.now) question_text c.as_slice-questions.result.now c.args.message.now.questions (c.as_slice-questions.ensures ∙ ap (λ (m : Message). m.questions) c.message.view_is) (header_of_lists c.args.writer.now c.put_header.new.writer c.args.message.now c.message.inside.header c.as_slice-questions.result.now c.as_slice-answers.result.now c.as_slice-authority.result.now c.as_slice-additional.result.now
    (ap (λ (m : Message). m.header) c.message.view_is) (c.as_slice-questions.ensures ∙ ap (λ (m : Message). m.questions) c.message.view_is) (c.as_slice-answers.ensures ∙ ap (λ (m : Message). m.answers) c.message.view_is) (c.as_slice-authority.ensures ∙ ap (λ (m : Message). m.authority) c.message.view_is) (c.as_slice-additional.ensures ∙ ap (λ (m : Message). m.additional) c.message.view_is) c.in_ok-put_header.ensures.0) c.in_ok-put_questions.ensures.0 in
    let answers = section_written c.args.writer.now c.put_questions.new.writer c.put_records.new.writer (to_questions c.args.message.now) record_text c.as_slice-answers.result.now c.args.message.now.answers (c.as_slice-answers.ensures ∙ ap (λ (m : Message). m.answers) c.message.view_is) questions c.in_ok-put_records.ensures.0 in
    let authority = section_written c.args.writer.now c.put_records.new.writer c.put_records-2.new.writer (to_answers c.args.message.now) record_text c.as_slice-authority.result.now c.args.message.now.authority (c.as_slice-authority.ensures ∙ ap (λ (m : Message). m.authority) c.message.view_is) answers c.in_ok-put_records-2.ensures.0 in
    rw (p.1, p.2)
    (additional_refused c.args.limit c.in_err-put_records-3.field-0.0 c.args.writer.now c.put_records-2.new.writer c.args.message.now c.as_slice-additional.result.now (c.as_slice-additional.ensures ∙ ap (λ (m : Message). m.additional) c.message.view_is) authority c.in_err-put_records-3.ensures)

pub put_records-requires-clause-holds : goal.put_records-requires-clause-holds
put_records-requires-clause-holds g c =
    let questions = section_written c.args.writer.now c.put_header.new.writer c.put_questions.new.writer (header_text c.args.message.now) question_text c.as_slice-questions.result.now c.args.message.now.questions (c.as_slice-questions.ensures ∙ ap (λ (m : Message). m.questions) c.message.view_is) (header_of_lists c.args.writer.now c.put_header.new.writer c.args.message.now c.message.inside.header c.as_slice-questions.result.now c.as_slice-answers.result.now c.as_slice-authority.result.now c.as_slice-additional.result.now
    (ap (λ (m : Message). m.header) c.message.view_is) (c.as_slice-questions.ensures ∙ ap (λ (m : Message). m.questions) c.message.view_is) (c.as_slice-answers.ensures ∙ ap (λ (m : Message). m.answers) c.message.view_is) (c.as_slice-authority.ensures ∙ ap (λ (m : Message). m.authority) c.message.view_is) (c.as_slice-additional.ensures ∙ ap (λ (m : Message). m.additional) c.message.view_is) c.in_ok-put_header.ensures.0) c.in_ok-put_questions.ensures.0 in
    holds_after c.args.writer.now c.put_questions.new.writer (to_questions c.args.message.now) questions c.requires.holds

pub put_records-requires-2-clause-holds : goal.put_records-requires-2-clause-holds
put_records-requires-2-clause-holds g c =
    let questions = section_written c.args.writer.now c.put_header.new.writer c.put_questions.new.writer (header_text c.args.message.now) question_text c.as_slice-questions.result.now c.args.message.now.questions (c.as_slice-questions.ensures ∙ ap (λ (m : Message). m.questions) c.message.view_is) (header_of_lists c.args.writer.now c.put_header.new.writer c.args.message.now c.message.inside.header c.as_slice-questions.result.now c.as_slice-answers.result.now c.as_slice-authority.result.now c.as_slice-additional.result.now
    (ap (λ (m : Message). m.header) c.message.view_is) (c.as_slice-questions.ensures ∙ ap (λ (m : Message). m.questions) c.message.view_is) (c.as_slice-answers.ensures ∙ ap (λ (m : Message). m.answers) c.message.view_is) (c.as_slice-authority.ensures ∙ ap (λ (m : Message). m.authority) c.message.view_is) (c.as_slice-additional.ensures ∙ ap (λ (m : Message). m.additional) c.message.view_is) c.in_ok-put_header.ensures.0) c.in_ok-put_questions.ensures.0 in
    let answers = section_written c.args.writer.now c.put_questions.new.writer c.put_records.new.writer (to_questions c.args.message.now) record_text c.as_slice-answers.result.now c.args.message.now.answers (c.as_slice-answers.ensures ∙ ap (λ (m : Message). m.answers) c.message.view_is) questions c.in_ok-put_records.ensures.0 in
    holds_after c.args.writer.now c.put_records.new.writer (to_answers c.args.message.now) answers c.requires.holds

pub put_records-requires-3-clause-holds : goal.put_records-requires-3-clause-holds
put_records-requires-3-clause-holds g c =
    let questions = section_written c.args.writer.now c.put_header.new.writer c.put_questions.new.writer (header_text c.args.message.now) question_text c.as_slice-questions.result.now c.args.message.now.questions (c.as_slice-questions.ensures ∙ ap (λ (m : Message). m.questions) c.message.view_is) (header_of_lists c.args.writer.now c.put_header.new.writer c.args.message.now c.message.inside.header c.as_slice-questions.result.now c.as_slice-answers.result.now c.as_slice-authority.result.now c.as_slice-additional.result.now
    (ap (λ (m : Message). m.header) c.message.view_is) (c.as_slice-questions.ensures ∙ ap (λ (m : Message). m.questions) c.message.view_is) (c.as_slice-answers.ensures ∙ ap (λ (m : Message). m.answers) c.message.view_is) (c.as_slice-authority.ensures ∙ ap (λ (m : Message). m.authority) c.message.view_is) (c.as_slice-additional.ensures ∙ ap (λ (m : Message). m.additional) c.message.view_is) c.in_ok-put_header.ensures.0) c.in_ok-put_questions.ensures.0 in
    let answers = section_written c.args.writer.now c.put_questions.new.writer c.put_records.new.writer (to_questions c.args.message.now) record_text c.as_slice-answers.result.now c.args.message.now.answers (c.as_slice-answers.ensures ∙ ap (λ (m : Message). m.answers) c.message.view_is) questions c.in_ok-put_records.ensures.0 in
    let authority = section_written c.args.writer.now c.put_records.new.writer c.put_records-2.new.writer (to_answers c.args.message.now) record_text c.as_slice-authority.result.now c.args.message.now.authority (c.as_slice-authority.ensures ∙ ap (λ (m : Message). m.authority) c.message.view_is) answers c.in_ok-put_records-2.ensures.0 in
    holds_after c.args.writer.now c.put_records-2.new.writer (to_authority c.args.message.now) authority c.requires.holds

pub returns : goal.returns
returns g c =
    let questions = section_written c.args.writer.now c.put_header.new.writer c.put_questions.new.writer (header_text c.args.message.now) question_text c.as_slice-questions.result.now c.args.message.now.questions (c.as_slice-questions.ensures ∙ ap (λ (m : Message). m.questions) c.message.view_is) (header_of_lists c.args.writer.now c.put_header.new.writer c.args.message.now c.message.inside.header c.as_slice-questions.result.now c.as_slice-answers.result.now c.as_slice-authority.result.now c.as_slice-additional.result.now
    (ap (λ (m : Message). m.header) c.message.view_is) (c.as_slice-questions.ensures ∙ ap (λ (m : Message). m.questions) c.message.view_is) (c.as_slice-answers.ensures ∙ ap (λ (m : Message). m.answers) c.message.view_is) (c.as_slice-authority.ensures ∙ ap (λ (m : Message). m.authority) c.message.view_is) (c.as_slice-additional.ensures ∙ ap (λ (m : Message). m.additional) c.message.view_is) c.in_ok-put_header.ensures.0) c.in_ok-put_questions.ensures.0 in
    let answers = section_written c.args.writer.now c.put_questions.new.writer c.put_records.new.writer (to_questions c.args.message.now) record_text c.as_slice-answers.result.now c.args.message.now.answers (c.as_slice-answers.ensures ∙ ap (λ (m : Message). m.answers) c.message.view_is) questions c.in_ok-put_records.ensures.0 in
    let authority = section_written c.args.writer.now c.put_records.new.writer c.put_records-2.new.writer (to_answers c.args.message.now) record_text c.as_slice-authority.result.now c.args.message.now.authority (c.as_slice-authority.ensures ∙ ap (λ (m : Message). m.authority) c.message.view_is) answers c.in_ok-put_records-2.ensures.0 in
    let additional = section_written c.args.writer.now c.put_records-2.new.writer c.put_records-3.new.writer (to_authority c.args.message.now) record_text c.as_slice-additional.result.now c.args.message.now.additional (c.as_slice-additional.ensures ∙ ap (λ (m : Message). m.additional) c.message.view_is) authority c.in_ok-put_records-3.ensures.0 in (
      additional,
      c.in_ok-put_records-3.ensures.1,
      record {
        id = header_number c.args.message.now c.message.inside.header.id (ap (λ (m : Message). m.header.id) c.message.view_is) c.in_ok-put_header.ensures.1;
        bits = c.requires.bits;
        questions = subst (AllByRecursion IsQuestion) (c.as_slice-questions.ensures ∙ ap (λ (m : Message). m.questions) c.message.view_is) c.in_ok-put_questions.ensures.2;
        answers = subst (AllByRecursion IsRecord) (c.as_slice-answers.ensures ∙ ap (λ (m : Message). m.answers) c.message.view_is) c.in_ok-put_records.ensures.2;
        authority = subst (AllByRecursion IsRecord) (c.as_slice-authority.ensures ∙ ap (λ (m : Message). m.authority) c.message.view_is) c.in_ok-put_records-2.ensures.2;
        additional = subst (AllByRecursion IsRecord) (c.as_slice-additional.ensures ∙ ap (λ (m : Message). m.additional) c.message.view_is) c.in_ok-put_records-3.ensures.2;
      },
    )

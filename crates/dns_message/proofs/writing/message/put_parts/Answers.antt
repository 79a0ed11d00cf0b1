use Rattle.std.specs.List.{AllByRecursion}
use Rattle.std.proofs.Common.{subst, ap}
use Rattle.std.proofs.lemmas.Result.{err_from_is_err_and}
use Rattle.dns_message.specs.Values.{Message}
use Rattle.dns_message.specs.Borrowed.{questions_of, records_in}
use Rattle.dns_message.specs.Written.{IsQuestion, IsRecord}
use Rattle.dns_message.specs.Writing.{header_text, question_text, record_text}
use Rattle.dns_message.proofs.writing.WriterRecords.{holds_after, too_large}
use Rattle.dns_message.proofs.writing.WriterMessages.{to_questions, to_answers, header_of_counts, header_number, header_refused, questions_refused, answers_refused, authority_refused, section_written, no_more_written}
use Rattle.dns_message.proofs.writing.message.put_parts.Goals as goal

pub returns-in_err-check : goal.returns-in_err-check
returns-in_err-check g c =
    let p = err_from_is_err_and c.from_residual-in_err-check.result c.from_residual-in_err-check.ensures.1 in
    let header = header_of_counts c.args.writer.now c.put_header.new.writer c.args.message.now c.message.inside.header c.args.counts (ap (λ (m : Message). m.header) c.message.view_is) c.requires.counts c.in_ok-put_header.ensures.0 in
    rw (p.1, p.2)
    (header_refused c.args.limit c.in_err-check.field-0.0 c.args.writer.now c.args.message.now (too_large c.args.limit c.in_err-check.field-0.0 c.args.writer.now c.put_header.new.writer (header_text c.args.message.now) header c.in_err-check.ensures.0 c.in_err-check.ensures.1))

pub returns-in_err-put_only_question : goal.returns-in_err-put_only_question
returns-in_err-put_only_question g c =
    let p = err_from_is_err_and c.from_residual-in_err-put_only_question.result c.from_residual-in_err-put_only_question.ensures.1 in
    let header = header_of_counts c.args.writer.now c.put_header.new.writer c.args.message.now c.message.inside.header c.args.counts (ap (λ (m : Message). m.header) c.message.view_is) c.requires.counts c.in_ok-put_header.ensures.0 in
    rw (p.1, p.2)
    (questions_refused c.args.limit c.in_err-put_only_question.field-0.0 c.args.writer.now c.put_header.new.writer c.args.message.now (questions_of c.message.inside.question) (ap (λ (m : Message). m.questions) c.message.view_is) header c.in_err-put_only_question.ensures)

pub put_sets-requires-clause-holds : goal.put_sets-requires-clause-holds
put_sets-requires-clause-holds g c =
    let header = header_of_counts c.args.writer.now c.put_header.new.writer c.args.message.now c.message.inside.header c.args.counts (ap (λ (m : Message). m.header) c.message.view_is) c.requires.counts c.in_ok-put_header.ensures.0 in
    let questions = section_written c.args.writer.now c.put_header.new.writer c.put_only_question.new.writer (header_text c.args.message.now) question_text (questions_of c.message.inside.question) c.args.message.now.questions (ap (λ (m : Message). m.questions) c.message.view_is) header c.in_ok-put_only_question.ensures.0 in
    holds_after c.args.writer.now c.put_only_question.new.writer (to_questions c.args.message.now) questions c.requires.holds

pub returns-in_err-put_sets : goal.returns-in_err-put_sets
returns-in_err-put_sets g c =
    let p = err_from_is_err_and c.from_residual-in_err-put_sets.result c.from_residual-in_err-put_sets.ensures.1 in
    let header = header_of_counts c.args.writer.now c.put_header.new.writer c.args.message.now c.message.inside.header c.args.counts (ap (λ (m : Message). m.header) c.message.view_is) c.requires.counts c.in_ok-put_header.ensures.0 in
    let questions = section_written c.args.writer.now c.put_header.new.writer c.put_only_question.new.writer (header_text c.args.message.now) question_text (questions_of c.message.inside.question) c.args.message.now.questions (ap (λ (m : Message). m.questions) c.message.view_is) header c.in_ok-put_only_question.ensures.0 in
    rw (p.1, p.2)
    (answers_refused c.args.limit c.in_err-put_sets.field-0.0 c.args.writer.now c.put_only_question.new.writer c.args.message.now (records_in c.message.inside.answers.now) (ap (λ (m : Message). m.answers) c.message.view_is) questions c.in_err-put_sets.ensures)

pub put_sets-requires-2-clause-holds : goal.put_sets-requires-2-clause-holds
put_sets-requires-2-clause-holds g c =
    let header = header_of_counts c.args.writer.now c.put_header.new.writer c.args.message.now c.message.inside.header c.args.counts (ap (λ (m : Message). m.header) c.message.view_is) c.requires.counts c.in_ok-put_header.ensures.0 in
    let questions = section_written c.args.writer.now c.put_header.new.writer c.put_only_question.new.writer (header_text c.args.message.now) question_text (questions_of c.message.inside.question) c.args.message.now.questions (ap (λ (m : Message). m.questions) c.message.view_is) header c.in_ok-put_only_question.ensures.0 in
    let answers = section_written c.args.writer.now c.put_only_question.new.writer c.put_sets.new.writer (to_questions c.args.message.now) record_text (records_in c.message.inside.answers.now) c.args.message.now.answers (ap (λ (m : Message). m.answers) c.message.view_is) questions c.in_ok-put_sets.ensures.0 in
    holds_after c.args.writer.now c.put_sets.new.writer (to_answers c.args.message.now) answers c.requires.holds

pub returns-in_err-put_sets-2 : goal.returns-in_err-put_sets-2
returns-in_err-put_sets-2 g c =
    let p = err_from_is_err_and c.from_residual-in_err-put_sets-2.result c.from_residual-in_err-put_sets-2.ensures.1 in
    let header = header_of_counts c.args.writer.now c.put_header.new.writer c.args.message.now c.message.inside.header c.args.counts (ap (λ (m : Message). m.header) c.message.view_is) c.requires.counts c.in_ok-put_header.ensures.0 in
    let questions = section_written c.args.writer.now c.put_header.new.writer c.put_only_question.new.writer (header_text c.args.message.now) question_text (questions_of c.message.inside.question) c.args.message.now.questions (ap (λ (m : Message). m.questions) c.message.view_is) header c.in_ok-put_only_question.ensures.0 in
    let answers = section_written c.args.writer.now c.put_only_question.new.writer c.put_sets.new.writer (to_questions c.args.message.now) record_text (records_in c.message.inside.answers.now) c.args.message.now.answers (ap (λ (m : Message). m.answers) c.message.view_is) questions c.in_ok-put_sets.ensures.0 in
    rw (p.1, p.2)
    (authority_refused c.args.limit c.in_err-put_sets-2.field-0.0 c.args.writer.now c.put_sets.new.writer c.args.message.now (records_in c.message.inside.authority.now) (ap (λ (m : Message). m.authority) c.message.view_is) answers c.in_err-put_sets-2.ensures)

pub returns : goal.returns
returns g c =
    let header = header_of_counts c.args.writer.now c.put_header.new.writer c.args.message.now c.message.inside.header c.args.counts (ap (λ (m : Message). m.header) c.message.view_is) c.requires.counts c.in_ok-put_header.ensures.0 in
    let questions = section_written c.args.writer.now c.put_header.new.writer c.put_only_question.new.writer (header_text c.args.message.now) question_text (questions_of c.message.inside.question) c.args.message.now.questions (ap (λ (m : Message). m.questions) c.message.view_is) header c.in_ok-put_only_question.ensures.0 in
    let answers = section_written c.args.writer.now c.put_only_question.new.writer c.put_sets.new.writer (to_questions c.args.message.now) record_text (records_in c.message.inside.answers.now) c.args.message.now.answers (ap (λ (m : Message). m.answers) c.message.view_is) questions c.in_ok-put_sets.ensures.0 in
    let authority = section_written c.args.writer.now c.put_sets.new.writer c.put_sets-2.new.writer (to_answers c.args.message.now) record_text (records_in c.message.inside.authority.now) c.args.message.now.authority (ap (λ (m : Message). m.authority) c.message.view_is) answers c.in_ok-put_sets-2.ensures.0 in (
      no_more_written c.args.writer.now c.put_sets-2.new.writer c.args.message.now (ap (λ (m : Message). m.additional) c.message.view_is) authority,
      c.in_ok-put_sets-2.ensures.1,
      record {
        id = header_number c.args.message.now c.message.inside.header.id (ap (λ (m : Message). m.header.id) c.message.view_is) c.in_ok-put_header.ensures.1;
        bits = c.requires.bits;
        questions = subst (AllByRecursion IsQuestion) (ap (λ (m : Message). m.questions) c.message.view_is) c.in_ok-put_only_question.ensures.2;
        answers = subst (AllByRecursion IsRecord) (ap (λ (m : Message). m.answers) c.message.view_is) c.in_ok-put_sets.ensures.2;
        authority = subst (AllByRecursion IsRecord) (ap (λ (m : Message). m.authority) c.message.view_is) c.in_ok-put_sets-2.ensures.2;
        additional = subst (AllByRecursion IsRecord) (ap (λ (m : Message). m.additional) c.message.view_is) tt;
      },
    )

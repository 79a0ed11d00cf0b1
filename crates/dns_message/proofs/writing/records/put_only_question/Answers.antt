use Rattle.std.proofs.lemmas.Result.{err_from_is_err_and}
use Rattle.dns_message.specs.Writing.{question_text}
use Rattle.dns_message.proofs.writing.WriterSets.{none_written, one_written, one_refused}
use Rattle.dns_message.proofs.writing.records.put_only_question.Goals as goal

pub returns-in-None : goal.returns-in-None
returns-in-None g c = rw c.in-None.is (none_written c.args.writer.now question_text, c.requires, tt)

pub returns-in_err-put_question-in-Some : goal.returns-in_err-put_question-in-Some
returns-in_err-put_question-in-Some g c =
    let p = err_from_is_err_and c.from_residual.result c.from_residual.ensures.1 in
    rw (p.1, p.2, c.in-Some.is) (one_refused c.args.limit c.in_err-put_question-in-Some.field-0.0 c.args.writer.now question_text _ c.in_err-put_question-in-Some.ensures)

pub returns-in_ok-put_question-in-Some : goal.returns-in_ok-put_question-in-Some
returns-in_ok-put_question-in-Some g c =
    rw c.in-Some.is (one_written c.args.writer.now c.put_question.new.writer question_text _ c.in_ok-put_question-in-Some.ensures.0, c.in_ok-put_question-in-Some.ensures.1, (c.in_ok-put_question-in-Some.ensures.2, tt))

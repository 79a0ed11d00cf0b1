use Rattle.std.proofs.Common.{ap}
use Rattle.std.proofs.lemmas.Result.{err_from_is_err_and}
use Rattle.std.proofs.Common.{subst}
use Rattle.dns_message.specs.Written.{IsQuestion}
use Rattle.dns_message.specs.Writing.{each, question_text}
use Rattle.dns_message.proofs.writing.WriterLaws.{begins}
use Rattle.dns_message.proofs.writing.WriterRecords.{all_so_far, all_of_them, element_refused, element_written, list_written, refused_as, writes_as}
use Rattle.dns_message.proofs.writing.records.put_questions.Goals as goal

pub loop-question-init : goal.loop-question-init
loop-question-init g c = record { left = begins c.args.writer.now (each question_text c.args.questions.now); within = c.requires; all = tt }

pub returns-in_err-put_question : goal.returns-in_err-put_question
returns-in_err-put_question g c =
    let p = err_from_is_err_and c.from_residual.result c.from_residual.ensures.1 in
    rw (p.1, p.2)
    (element_refused c.args.limit c.in_err-put_question.field-0.0 c.args.writer.now c.loop-question.writer question_text c.args.questions.now c.loop-question.question-index c.question-item.result c.loop-question-test.true c.question-item.is
    c.loop-question.invariant.left
    (refused_as c.args.limit c.in_err-put_question.field-0.0 c.loop-question.writer (question_text c.of.result) (question_text c.question-item.result) (ap question_text c.of.ensures) c.in_err-put_question.ensures))

pub loop-question-preserved : goal.loop-question-preserved
loop-question-preserved g c =
    let step = writes_as c.loop-question.writer c.put_question.new.writer (question_text c.of.result) (question_text c.question-item.result) (ap question_text c.of.ensures) c.in_ok-put_question.ensures.0 in
    record {
      left =
          element_written c.args.writer.now c.loop-question.writer c.put_question.new.writer question_text c.args.questions.now c.loop-question.question-index c.question-item.result c.loop-question-test.true c.question-item.is
          c.loop-question.invariant.left step;
      within = c.in_ok-put_question.ensures.1;
      all = all_so_far IsQuestion c.args.questions.now c.loop-question.question-index c.question-item.result c.loop-question-test.true c.question-item.is c.loop-question.invariant.all (subst IsQuestion c.of.ensures c.in_ok-put_question.ensures.2);
    }

pub returns : goal.returns
returns g c =
    (list_written c.args.writer.now c.loop-question.writer question_text c.args.questions.now c.loop-question.question-index c.loop-question-test.false c.loop-question.invariant.left, c.loop-question.invariant.within, all_of_them IsQuestion c.args.questions.now c.loop-question.question-index c.loop-question-test.false c.loop-question.invariant.all)

use Rattle.std.proofs.lemmas.Result.{err_from_is_err_and}
use Rattle.dns_message.specs.Records.{question_at}
use Rattle.dns_message.proofs.reading.Counting.{read_fails, read_done}
use Rattle.dns_message.proofs.reading.records.read_questions.Goals as goal

pub returns-in_err-question-clause-exact : goal.returns-in_err-question-clause-exact
returns-in_err-question-clause-exact g c =
    let p = err_from_is_err_and c.from_residual.result c.from_residual.ensures.1 in
    rw (p.1, p.2) (read_fails c.in_err-question.field-0.0 c.loop.questions (question_at c.args.bytes.now) c.args.count c.loop.counter c.loop.at _ c.loop-test.true c.in_err-question.ensures.exact c.loop.invariant.rest)

pub returns-clause-exact : goal.returns-clause-exact
returns-clause-exact g c = read_done c.loop.questions (question_at c.args.bytes.now) c.args.count c.loop.counter c.loop.at _ c.loop-test.false c.loop.invariant.rest

use Rattle.std.proofs.Common.{arith}
use Rattle.std.proofs.lemmas.Result.{err_from_is_err_and}
use Rattle.dns_name.specs.Labels.{labels_of}
use Rattle.dns_message.specs.Writing.{question_text}
use Rattle.dns_message.proofs.writing.WriterRecords.{question_written, question_is, too_large}
use Rattle.dns_message.proofs.writing.records.put_question.Goals as goal

pub returns-in_err-check : goal.returns-in_err-check
returns-in_err-check g c =
    let p = err_from_is_err_and c.from_residual-in_err-check.result c.from_residual-in_err-check.ensures.1 in
    let step = question_written c.args.writer.now c.put_name.new.self c.put.new.self c.args.question.now (labels_of c.name.result.now) c.kind.result c.class.result c.kind_and_class.result
    c.name.ensures.labels c.kind.ensures c.class.ensures c.kind_and_class.ensures c.in_ok-put_name.ensures c.in_ok-put.ensures in
    rw (p.1, p.2)
    (too_large c.args.limit c.in_err-check.field-0.0 c.args.writer.now c.put.new.self (question_text c.args.question.now) step c.in_err-check.ensures.0 c.in_err-check.ensures.1)

pub returns : goal.returns
returns g c = (
  question_written c.args.writer.now c.put_name.new.self c.put.new.self c.args.question.now (labels_of c.name.result.now) c.kind.result c.class.result c.kind_and_class.result
      c.name.ensures.labels c.kind.ensures c.class.ensures c.kind_and_class.ensures c.in_ok-put_name.ensures c.in_ok-put.ensures,
  c.in_ok-check.ensures,
  question_is c.args.question.now (labels_of c.name.result.now) c.kind.result c.class.result c.name.ensures.labels c.kind.ensures c.class.ensures c.name.ensures.laid.name (omega arith) (omega arith),
)

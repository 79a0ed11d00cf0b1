use Rattle.std.proofs.lemmas.Result.{err_from_is_err_and}
use Rattle.std.proofs.Common.{drop}
use Rattle.dns_message.specs.Written.{IsRecord}
use Rattle.dns_message.specs.Writing.{each, record_text}
use Rattle.dns_message.proofs.writing.WriterLaws.{begins}
use Rattle.dns_message.proofs.writing.WriterRecords.{all_so_far, all_of_them, holds_on, element_refused, element_written, list_written}
use Rattle.dns_message.proofs.writing.records.put_records.Goals as goal

pub loop-entry-init : goal.loop-entry-init
loop-entry-init g c = record { left = begins c.args.writer.now (each record_text c.args.records.now); within = c.requires.within; all = tt }

pub put_record-requires-clause-holds : goal.put_record-requires-clause-holds
put_record-requires-clause-holds g c =
    holds_on c.args.writer.now c.loop-entry.writer (each record_text (drop c.loop-entry.entry-index c.args.records.now)) (each record_text c.args.records.now) c.loop-entry.invariant.left c.requires.holds

pub returns-in_err-put_record : goal.returns-in_err-put_record
returns-in_err-put_record g c =
    let p = err_from_is_err_and c.from_residual.result c.from_residual.ensures.1 in
    rw (p.1, p.2)
    (element_refused c.args.limit c.in_err-put_record.field-0.0 c.args.writer.now c.loop-entry.writer record_text c.args.records.now c.loop-entry.entry-index c.entry-item.result c.loop-entry-test.true c.entry-item.is
    c.loop-entry.invariant.left c.in_err-put_record.ensures)

pub loop-entry-preserved : goal.loop-entry-preserved
loop-entry-preserved g c = record {
  left =
      element_written c.args.writer.now c.loop-entry.writer c.put_record.new.writer record_text c.args.records.now c.loop-entry.entry-index c.entry-item.result c.loop-entry-test.true c.entry-item.is
      c.loop-entry.invariant.left c.in_ok-put_record.ensures.0;
  within = c.in_ok-put_record.ensures.1;
  all = all_so_far IsRecord c.args.records.now c.loop-entry.entry-index c.entry-item.result c.loop-entry-test.true c.entry-item.is c.loop-entry.invariant.all c.in_ok-put_record.ensures.2;
}

pub returns : goal.returns
returns g c =
    (list_written c.args.writer.now c.loop-entry.writer record_text c.args.records.now c.loop-entry.entry-index c.loop-entry-test.false c.loop-entry.invariant.left, c.loop-entry.invariant.within, all_of_them IsRecord c.args.records.now c.loop-entry.entry-index c.loop-entry-test.false c.loop-entry.invariant.all)

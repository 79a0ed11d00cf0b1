use Rattle.std.proofs.lemmas.Result.{err_from_is_err_and}
use Rattle.std.proofs.Common.{drop}
use Rattle.dns_message.specs.Written.{IsRecord}
use Rattle.dns_message.specs.Writing.{each, record_text}
use Rattle.dns_message.proofs.writing.WriterLaws.{begins}
use Rattle.std.specs.List.{AllByRecursion}
use Rattle.dns_message.specs.Borrowed.{records_in}
use Rattle.dns_message.proofs.writing.WriterSets.{sets_text, same_written, same_refused, all_sets}
use Rattle.dns_message.proofs.writing.WriterRecords.{all_so_far, all_of_them, holds_on, element_refused, element_written, list_written}
use Rattle.dns_message.proofs.writing.records.put_sets.Goals as goal

pub loop-set-init : goal.loop-set-init
loop-set-init g c = record { left = begins c.args.writer.now (each (each record_text) c.args.sets.now); within = c.requires.within; all = tt }

pub put_set-requires-clause-holds : goal.put_set-requires-clause-holds
put_set-requires-clause-holds g c =
    holds_on c.args.writer.now c.loop-set.writer (each (each record_text) (drop c.loop-set.set-index c.args.sets.now)) (each (each record_text) c.args.sets.now) c.loop-set.invariant.left c.requires.holds

pub returns-in_err-put_set : goal.returns-in_err-put_set
returns-in_err-put_set g c =
    let p = err_from_is_err_and c.from_residual.result c.from_residual.ensures.1 in
    rw (p.1, p.2)
    (same_refused c.args.limit c.in_err-put_set.field-0.0 c.args.writer.now (each (each record_text) c.args.sets.now) (each record_text (records_in c.args.sets.now)) (sets_text c.args.sets.now)
    (element_refused c.args.limit c.in_err-put_set.field-0.0 c.args.writer.now c.loop-set.writer (each record_text) c.args.sets.now c.loop-set.set-index c.set-item.result c.loop-set-test.true c.set-item.is
    c.loop-set.invariant.left c.in_err-put_set.ensures))

pub loop-set-preserved : goal.loop-set-preserved
loop-set-preserved g c = record {
  left =
      element_written c.args.writer.now c.loop-set.writer c.put_set.new.writer (each record_text) c.args.sets.now c.loop-set.set-index c.set-item.result c.loop-set-test.true c.set-item.is
      c.loop-set.invariant.left c.in_ok-put_set.ensures.0;
  within = c.in_ok-put_set.ensures.1;
  all = all_so_far (AllByRecursion IsRecord) c.args.sets.now c.loop-set.set-index c.set-item.result c.loop-set-test.true c.set-item.is c.loop-set.invariant.all c.in_ok-put_set.ensures.2;
}

pub returns : goal.returns
returns g c = (
  same_written c.args.writer.now c.loop-set.writer (each (each record_text) c.args.sets.now) (each record_text (records_in c.args.sets.now)) (sets_text c.args.sets.now)
      (list_written c.args.writer.now c.loop-set.writer (each record_text) c.args.sets.now c.loop-set.set-index c.loop-set-test.false c.loop-set.invariant.left),
  c.loop-set.invariant.within,
  all_sets c.args.sets.now (all_of_them (AllByRecursion IsRecord) c.args.sets.now c.loop-set.set-index c.loop-set-test.false c.loop-set.invariant.all),
)

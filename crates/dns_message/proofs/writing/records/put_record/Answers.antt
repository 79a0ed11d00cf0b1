use Rattle.std.proofs.Common.{ap, subst}
use Rattle.std.proofs.lemmas.Result.{err_from_is_err_and}
use Rattle.dns_message.specs.Written.{IsRecord}
use Rattle.dns_message.specs.Writing.{record_text}
use Rattle.dns_message.proofs.writing.WriterRecords.{record_as, refused_as, writes_as}
use Rattle.dns_message.proofs.writing.records.put_record.Goals as goal

pub returns-in_err-put_any_row : goal.returns-in_err-put_any_row
returns-in_err-put_any_row g c =
    let p = err_from_is_err_and c.from_residual.result c.from_residual.ensures.1 in
    let same = record_as c.args.entry.now _ _ _ _ _ _ _ c.entry.view_is c.octets.ensures.labels c.octets-2.ensures in
    rw (p.1, p.2) (refused_as c.args.limit c.in_err-put_any_row.field-0.0 c.args.writer.now _ (record_text c.args.entry.now) (ap record_text same) c.in_err-put_any_row.ensures)

pub returns : goal.returns
returns g c =
    let same = record_as c.args.entry.now _ _ _ _ _ _ _ c.entry.view_is c.octets.ensures.labels c.octets-2.ensures in
    (writes_as c.args.writer.now c.put_any_row.new.writer _ (record_text c.args.entry.now) (ap record_text same) c.in_ok-put_any_row.ensures.0, c.in_ok-put_any_row.ensures.1, subst IsRecord same c.in_ok-put_any_row.ensures.2)

use Rattle.std.proofs.Common.{ℕ, List, ap, drop, subst, rules}
use Rattle.std.proofs.lemmas.Result.{err_from_is_err_and}
use Rattle.dns_name.specs.Labels.{labels_of}
use Rattle.dns_message.specs.Borrowed.{records_of}
use Rattle.dns_message.specs.Writing.{Writing, each, record_text}
use Rattle.dns_message.proofs.writing.WriterLaws.{stays_if_known}
use Rattle.dns_message.proofs.writing.WriterRecords.{all_so_far, all_of_them, holds_on, element_refused, element_written, list_written, refused_as, writes_as}
use Rattle.dns_message.proofs.writing.WriterSets.{row_text, IsRow, rows_text, all_rows}
use Rattle.dns_message.proofs.writing.records.put_rows.Goals as goal

pub put_row-requires-clause-holds : goal.put_row-requires-clause-holds
put_row-requires-clause-holds g c =
    let text : List ℕ → Writing = row_text (labels_of c.args.head.now.owner.now) c.args.head.now.kind c.args.head.now.class c.args.head.now.ttl in
    holds_on c.args.writer.now c.loop-rdata.writer (each text (drop c.loop-rdata.rdata-index c.args.rows.now)) (each text c.args.rows.now) c.loop-rdata.invariant.left c.requires.holds

pub returns-in_err-put_row : goal.returns-in_err-put_row
returns-in_err-put_row g c =
    let p = err_from_is_err_and c.from_residual.result c.from_residual.ensures.1 in
    let text : List ℕ → Writing = row_text (labels_of c.args.head.now.owner.now) c.args.head.now.kind c.args.head.now.class c.args.head.now.ttl in
    let rows : List (List ℕ) = c.args.rows.now in
    let whole = rows_text (labels_of c.args.head.now.owner.now) c.args.head.now.kind c.args.head.now.class c.args.head.now.ttl rows in
    rw (p.1, p.2)
    (refused_as c.args.limit c.in_err-put_row.field-0.0 c.args.writer.now (each text rows) (each record_text (records_of (labels_of c.args.head.now.owner.now) c.args.head.now.kind c.args.head.now.class c.args.head.now.ttl rows)) whole
    (element_refused c.args.limit c.in_err-put_row.field-0.0 c.args.writer.now c.loop-rdata.writer text rows c.loop-rdata.rdata-index c.rdata-item.result c.loop-rdata-test.true c.rdata-item.is c.loop-rdata.invariant.left
    (refused_as c.args.limit c.in_err-put_row.field-0.0 c.loop-rdata.writer (text c.octets.result.now) (text c.rdata-item.result) (ap text c.octets.ensures) c.in_err-put_row.ensures)))

pub loop-rdata-preserved : goal.loop-rdata-preserved
loop-rdata-preserved g c =
    let text : List ℕ → Writing = row_text (labels_of c.args.head.now.owner.now) c.args.head.now.kind c.args.head.now.class c.args.head.now.ttl in
    let rows : List (List ℕ) = c.args.rows.now in
    let is_row : List ℕ → Type 0 = IsRow (labels_of c.args.head.now.owner.now) c.args.head.now.kind c.args.head.now.class c.args.head.now.ttl in
    let holds = holds_on c.args.writer.now c.loop-rdata.writer (each text (drop c.loop-rdata.rdata-index rows)) (each text rows) c.loop-rdata.invariant.left c.requires.holds in
    let step = writes_as c.loop-rdata.writer c.put_row.new.writer (text c.octets.result.now) (text c.rdata-item.result) (ap text c.octets.ensures) c.in_ok-put_row.ensures.0 in
    record {
      known = stays_if_known c.loop-rdata.writer c.put_row.new.writer (text c.rdata-item.result) c.args.head.now.owner.now c.known-known.result c.requires.laid holds step c.known-known.ensures;
      left = element_written c.args.writer.now c.loop-rdata.writer c.put_row.new.writer text rows c.loop-rdata.rdata-index c.rdata-item.result c.loop-rdata-test.true c.rdata-item.is c.loop-rdata.invariant.left step;
      within = c.in_ok-put_row.ensures.1;
      all = all_so_far is_row rows c.loop-rdata.rdata-index c.rdata-item.result c.loop-rdata-test.true c.rdata-item.is c.loop-rdata.invariant.all (subst is_row c.octets.ensures c.in_ok-put_row.ensures.2);
    }

pub returns : goal.returns
returns g c =
    let text : List ℕ → Writing = row_text (labels_of c.args.head.now.owner.now) c.args.head.now.kind c.args.head.now.class c.args.head.now.ttl in
    let rows : List (List ℕ) = c.args.rows.now in
    let is_row : List ℕ → Type 0 = IsRow (labels_of c.args.head.now.owner.now) c.args.head.now.kind c.args.head.now.class c.args.head.now.ttl in
    let whole = rows_text (labels_of c.args.head.now.owner.now) c.args.head.now.kind c.args.head.now.class c.args.head.now.ttl rows in (
      writes_as c.args.writer.now c.loop-rdata.writer (each text rows) (each record_text (records_of (labels_of c.args.head.now.owner.now) c.args.head.now.kind c.args.head.now.class c.args.head.now.ttl rows)) whole
          (list_written c.args.writer.now c.loop-rdata.writer text rows c.loop-rdata.rdata-index c.loop-rdata-test.false c.loop-rdata.invariant.left),
      c.loop-rdata.invariant.within,
      all_rows (labels_of c.args.head.now.owner.now) c.args.head.now.kind c.args.head.now.class c.args.head.now.ttl rows (all_of_them is_row rows c.loop-rdata.rdata-index c.loop-rdata-test.false c.loop-rdata.invariant.all),
    )

pub put_row-requires-clause-known : goal.put_row-requires-clause-known
put_row-requires-clause-known g c = search rules

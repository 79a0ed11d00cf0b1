use Rattle.std.proofs.Common.{arith}
use Rattle.std.proofs.lemmas.Result.{err_from_is_err_and}
use Rattle.dns_name.specs.Labels.{labels_of}
use Rattle.dns_message.specs.Values.{Record}
use Rattle.dns_message.specs.Borrowed.{record_of}
use Rattle.dns_message.specs.Writing.{head_text, data_text, with_length}
use Rattle.dns_message.proofs.writing.WriterLaws.{both}
use Rattle.dns_message.proofs.writing.WriterRecords.{holds_after, refused_behind}
use Rattle.dns_message.proofs.writing.records.put_any_row.Goals as goal

pub put_with_length-requires-clause-holds : goal.put_with_length-requires-clause-holds
put_with_length-requires-clause-holds g c =
    let entry : Record = record_of (labels_of c.args.head.now.owner.now) c.args.head.now.kind c.args.head.now.class c.args.head.now.ttl c.args.rdata.now in
    holds_after c.args.writer.now c.put_head.new.writer (head_text entry) (c.in_ok-put_head.ensures c.args.rdata.now) c.requires.holds

pub returns-in_err-put_with_length : goal.returns-in_err-put_with_length
returns-in_err-put_with_length g c =
    let p = err_from_is_err_and c.from_residual-in_err-put_with_length.result c.from_residual-in_err-put_with_length.ensures.1 in
    let entry : Record = record_of (labels_of c.args.head.now.owner.now) c.args.head.now.kind c.args.head.now.class c.args.head.now.ttl c.args.rdata.now in
    rw (p.1, p.2)
    (refused_behind c.args.limit c.in_err-put_with_length.field-0.0 c.args.writer.now c.put_head.new.writer (head_text entry) (with_length (data_text c.args.head.now.kind c.args.rdata.now)) (c.in_ok-put_head.ensures c.args.rdata.now)
    c.in_err-put_with_length.ensures)

pub returns : goal.returns
returns g c =
    let entry : Record = record_of (labels_of c.args.head.now.owner.now) c.args.head.now.kind c.args.head.now.class c.args.head.now.ttl c.args.rdata.now in (
      both c.args.writer.now c.put_head.new.writer c.put_with_length.new.writer (head_text entry) (with_length (data_text c.args.head.now.kind c.args.rdata.now)) (c.in_ok-put_head.ensures c.args.rdata.now) c.in_ok-put_with_length.ensures.0,
      c.in_ok-put_with_length.ensures.1,
      record { owner = c.requires.laid.name; kind = omega arith; class = omega arith; ttl = omega arith },
    )

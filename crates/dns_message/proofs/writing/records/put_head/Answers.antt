use Rattle.std.proofs.Common.{ap}
use Rattle.dns_name.specs.Labels.{labels_of}
use Rattle.dns_message.specs.Borrowed.{record_of}
use Rattle.dns_message.specs.Writing.{name_text, as_is}
use Rattle.dns_message.proofs.writing.WriterLaws.{both, known_written}
use Rattle.dns_message.proofs.writing.WriterRecords.{head_written, writes_as}
use Rattle.dns_message.proofs.writing.records.put_head.Goals as goal

pub returns-in_ok-put-in-Some : goal.returns-in_ok-put-in-Some
returns-in_ok-put-in-Some g c = λ rdata.
    head_written c.args.writer.now c.put.new.self (record_of (labels_of c.args.head.now.owner.now) c.args.head.now.kind c.args.head.now.class c.args.head.now.ttl rdata) c.numbers_of-numbers.result c.numbers_of-numbers.ensures
    (known_written c.args.writer.now c.put.new.self c.args.head.now.owner.now c.in-Some.pointer c.numbers_of-numbers.result c.requires.laid (rw c.in-Some.is at c.requires.known)
    (writes_as c.args.writer.now c.put.new.self _ _ (ap as_is c.after_pointer.ensures) c.in_ok-put-in-Some.ensures))

pub returns-in_ok-put-in-None : goal.returns-in_ok-put-in-None
returns-in_ok-put-in-None g c = λ rdata.
    head_written c.args.writer.now c.put-in-None.new.self (record_of (labels_of c.args.head.now.owner.now) c.args.head.now.kind c.args.head.now.class c.args.head.now.ttl rdata) c.numbers_of-numbers.result c.numbers_of-numbers.ensures
    (both c.args.writer.now c.put_name.new.self c.put-in-None.new.self (name_text (labels_of c.args.head.now.owner.now)) (as_is c.numbers_of-numbers.result) c.in_ok-put_name-in-None.ensures c.in_ok-put-in-None.ensures)

use Rattle.std.proofs.Common.{◌≤◌, length, take, drop}
use Rattle.std.specs.List.{AllByRecursion}
use Rattle.std.specs.Option.{IfSome}
use Rattle.dns_name.specs.Labels.{labels_of}
use Rattle.dns_message.specs.Writing.{each}
use Rattle.dns_message.specs.Writer.{IsKnown}
use Rattle.dns_message.proofs.writing.WriterLaws.{GoesOn}
use Rattle.dns_message.proofs.writing.WriterSets.{row_text, IsRow}
use Rattle.dns_message.proofs.writing.records.put_rows.Given as goal

abbrev pub invariant-loop-rdata : goal.invariant-loop-rdata
invariant-loop-rdata g l = record {
  known : IfSome l.known (λ pointer. IsKnown l.writer l.head.owner.now pointer);
  left :
      GoesOn l.initial.writer l.writer (each (row_text (labels_of l.head.owner.now) l.head.kind l.head.class l.head.ttl) (drop l.rdata-index l.rows))
      (each (row_text (labels_of l.head.owner.now) l.head.kind l.head.class l.head.ttl) l.rows);
  within : length l.writer.octets.items ≤ l.limit;
  all : AllByRecursion (IsRow (labels_of l.head.owner.now) l.head.kind l.head.class l.head.ttl) (take l.rdata-index l.rows);
}

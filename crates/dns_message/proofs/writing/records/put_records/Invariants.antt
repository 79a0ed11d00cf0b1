use Rattle.std.proofs.Common.{◌≤◌, length, take, drop}
use Rattle.std.specs.List.{AllByRecursion}
use Rattle.dns_message.specs.Written.{IsRecord}
use Rattle.dns_message.specs.Writing.{each, record_text}
use Rattle.dns_message.proofs.writing.WriterLaws.{GoesOn}
use Rattle.dns_message.proofs.writing.records.put_records.Given as goal

abbrev pub invariant-loop-entry : goal.invariant-loop-entry
invariant-loop-entry g l = record {
  left : GoesOn l.initial.writer l.writer (each record_text (drop l.entry-index l.records)) (each record_text l.records);
  within : length l.writer.octets.items ≤ l.limit;
  all : AllByRecursion IsRecord (take l.entry-index l.records);
}

use Rattle.std.proofs.Common.{◌≤◌, length, take, drop}
use Rattle.std.specs.List.{AllByRecursion}
use Rattle.dns_message.specs.Written.{IsRecord}
use Rattle.dns_message.specs.Writing.{each, record_text}
use Rattle.dns_message.proofs.writing.WriterLaws.{GoesOn}
use Rattle.dns_message.proofs.writing.records.put_sets.Given as goal

abbrev pub invariant-loop-set : goal.invariant-loop-set
invariant-loop-set g l = record {
  left : GoesOn l.initial.writer l.writer (each (each record_text) (drop l.set-index l.sets)) (each (each record_text) l.sets);
  within : length l.writer.octets.items ≤ l.limit;
  all : AllByRecursion (AllByRecursion IsRecord) (take l.set-index l.sets);
}

use Rattle.std.proofs.Common.{◌≡◌, length, true}
use Rattle.std.specs.Prelude.{is_some}
use Rattle.dns_message.specs.Fields.{fields_of}
use Rattle.dns_message.proofs.writing.WriterFields.{parts_text}
use Rattle.dns_message.proofs.writing.WriterLaws.{GoesOn}
use Rattle.dns_message.proofs.writing.data.put_parts.Given as goal

abbrev pub invariant-loop-left : goal.invariant-loop-left
invariant-loop-left g l = record {
  parts : is_some (fields_of l.left l.rest) ≡ true;
  left : GoesOn l.initial.writer l.writer (parts_text l.left l.rest) (parts_text l.parts l.octets);
}

abbrev pub decreases-loop-left : goal.decreases-loop-left
decreases-loop-left g l = length l.left

use Rattle.std.proofs.Common.{◌≡◌, drop}
use Rattle.std.specs.Prelude.{is_some}
use Rattle.dns_message.specs.Fields.{fields_of}
use Rattle.dns_message.proofs.writing.data.are_parts.Given as goal

abbrev pub invariant-loop-part : goal.invariant-loop-part
invariant-loop-part l = is_some (fields_of (drop l.part-index l.parts) l.rest) ≡ is_some (fields_of l.parts l.octets)

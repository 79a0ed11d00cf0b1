use Rattle.std.proofs.Common.{◌≡◌, drop}
use Rattle.dns_message.specs.Fields.{has_name}
use Rattle.dns_message.proofs.writing.data.has_name.Given as goal

abbrev pub invariant-loop-part : goal.invariant-loop-part
invariant-loop-part l = has_name (drop l.part-index l.parts) ≡ has_name l.parts

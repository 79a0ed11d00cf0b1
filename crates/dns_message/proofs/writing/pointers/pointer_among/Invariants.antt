use Rattle.std.proofs.Common.{◌≡◌, drop}
use Rattle.dns_message.specs.Writer.{pointer_among}
use Rattle.dns_message.proofs.writing.pointers.pointer_among.Given as goal

abbrev pub invariant-loop-known : goal.invariant-loop-known
invariant-loop-known l = pointer_among (drop l.known-index l.few) l.name ≡ pointer_among l.few l.name

use Rattle.std.proofs.Common.{◌≡◌, ◌≤◌, length, take}
use Rattle.dns_message.specs.Borrowed.{records_in}
use Rattle.dns_message.proofs.writing.message.count_of.Given as goal

abbrev pub invariant-loop-set : goal.invariant-loop-set
invariant-loop-set g l = record { counted : l.count ≡ length (records_in (take l.set-index l.sets)); small : l.count ≤ 65535 }

use Rattle.std.proofs.Common.{◌-◌, length}
use Rattle.dns_message.proofs.names.EndLaws.{GoesOn}
use Rattle.dns_message.proofs.names.whole.readable_name_end.Given as goal

abbrev pub invariant-loop-offset : goal.invariant-loop-offset
invariant-loop-offset l = GoesOn l.bytes l.offset l.at

abbrev pub decreases-loop-offset : goal.decreases-loop-offset
decreases-loop-offset l = length l.bytes - l.at

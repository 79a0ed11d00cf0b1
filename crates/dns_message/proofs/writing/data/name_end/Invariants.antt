use Rattle.std.proofs.Common.{◌-◌}
use Rattle.dns_message.proofs.writing.NameEnd.{GoesBy}
use Rattle.dns_message.proofs.writing.data.name_end.Given as goal

abbrev pub invariant-loop-at : goal.invariant-loop-at
invariant-loop-at l = GoesBy l.octets l.at

abbrev pub decreases-loop-at : goal.decreases-loop-at
decreases-loop-at l = l.most - l.at

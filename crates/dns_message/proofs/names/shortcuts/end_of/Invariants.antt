use Rattle.std.proofs.Common.{◌≤◌}
use Rattle.dns_message.specs.Shortcuts.{SameRun}
use Rattle.dns_message.proofs.names.shortcuts.end_of.Given as goal

abbrev pub invariant-loop-next : goal.invariant-loop-next
invariant-loop-next l = record { same : SameRun l.bytes l.start l.place; back : l.place ≤ l.start }

abbrev pub decreases-loop-next : goal.decreases-loop-next
decreases-loop-next l = l.place

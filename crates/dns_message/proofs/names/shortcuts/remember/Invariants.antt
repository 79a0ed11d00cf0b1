use Rattle.dns_message.specs.Shortcuts.{SameRun, AreShortcuts}
use Rattle.dns_message.proofs.names.shortcuts.remember.Given as goal

abbrev pub invariant-loop-place : goal.invariant-loop-place
invariant-loop-place l = record { same : SameRun l.bytes l.start l.place; known : AreShortcuts l.bytes l.ends }

abbrev pub decreases-loop-place : goal.decreases-loop-place
decreases-loop-place l = l.place

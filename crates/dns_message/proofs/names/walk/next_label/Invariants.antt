use Rattle.std.proofs.Common.{◌≡◌, ◌≤◌, length}
use Rattle.dns_message.specs.Names.{resume}
use Rattle.dns_message.specs.Shortcuts.{AreShortcuts}
use Rattle.dns_message.proofs.names.walk.next_label.Given as goal

abbrev pub invariant-loop-len : goal.invariant-loop-len
invariant-loop-len l = record {
  same : resume l.bytes l.walk ≡ resume l.bytes l.initial.walk;
  used : l.walk.used ≡ l.initial.walk.used;
  stop : l.walk.bound.stop ≤ length l.bytes;
  back : l.walk.run ≤ l.initial.walk.run;
  known : AreShortcuts l.bytes l.ends;
}

abbrev pub decreases-loop-len : goal.decreases-loop-len
decreases-loop-len l = l.walk.run

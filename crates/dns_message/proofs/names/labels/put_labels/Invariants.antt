use Rattle.std.proofs.Common.{◌≡◌}
use Rattle.dns_message.specs.declared.names.fault.Fault.TheVariants.{Memory}
use Rattle.dns_message.specs.Shortcuts.{AreShortcuts}
use Rattle.dns_message.specs.Names.{name_within, steps_left}
use Rattle.dns_message.proofs.names.RunLaws.{Filled}
use Rattle.dns_message.proofs.names.labels.put_labels.Given as goal

abbrev pub invariant-loop-len : goal.invariant-loop-len
invariant-loop-len l = record {
  filled : Filled l.bytes l.octets l.walk (name_within l.bytes l.fn.bound l.offset);
  known : AreShortcuts l.bytes l.ends;
  beyond : l.walk.bound.beyond ≡ Memory → l.fn.bound.beyond ≡ Memory;
}

abbrev pub decreases-loop-len : goal.decreases-loop-len
decreases-loop-len l = steps_left l.walk.run l.walk.used

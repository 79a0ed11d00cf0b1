use Rattle.std.proofs.Common.{◌≡◌, ◌≤◌, ◌-◌}
use Rattle.dns_message.specs.Names.{steps_left, whole}
use Rattle.dns_message.specs.Sizes.{size_after}
use Rattle.dns_message.proofs.names.SizeLaws.{Left}
use Rattle.dns_message.proofs.names.sizes.measure.Given as goal

abbrev pub invariant-loop-len : goal.invariant-loop-len
invariant-loop-len l = record {
  read : Left l.bytes l.walk (l.walk.used - l.used) (size_after l.bytes l.start l.used);
  from : l.used ≤ l.walk.used;
  room : l.walk.used ≤ 254;
  bound : l.walk.bound ≡ whole l.bytes;
}

abbrev pub decreases-loop-len : goal.decreases-loop-len
decreases-loop-len l = steps_left l.walk.run l.walk.used

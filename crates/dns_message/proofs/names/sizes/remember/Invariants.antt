use Rattle.std.proofs.Common.{◌≡◌, ◌≤◌, Ok}
use Rattle.dns_message.specs.Names.{steps_left, whole}
use Rattle.dns_message.specs.Sizes.{AreSizes}
use Rattle.dns_message.proofs.names.SizeLaws.{Left}
use Rattle.dns_message.proofs.names.sizes.remember.Given as goal

abbrev pub invariant-loop-walk : goal.invariant-loop-walk
invariant-loop-walk l = record {
  read : Left l.bytes l.walk l.walk.used (Ok l.size);
  back : l.walk.run ≤ l.walk.offset;
  room : l.walk.used ≤ 254;
  bound : l.walk.bound ≡ whole l.bytes;
  known : AreSizes l.bytes l.sizes;
}

abbrev pub decreases-loop-walk : goal.decreases-loop-walk
decreases-loop-walk l = steps_left l.walk.run l.walk.used

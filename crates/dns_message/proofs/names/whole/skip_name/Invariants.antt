use Rattle.std.proofs.Common.{◌≡◌, ◌≤◌, length, None}
use Rattle.dns_message.specs.Sizes.{AreSizes}
use Rattle.dns_message.specs.Names.{resume, name_within, steps_left}
use Rattle.dns_message.specs.Reading.{end_read}
use Rattle.dns_message.proofs.names.whole.skip_name.Given as goal

abbrev pub invariant-loop-len : goal.invariant-loop-len
invariant-loop-len l = record {
  read : end_read (resume l.bytes l.walk) ≡ end_read (name_within l.bytes l.fn.bound l.offset);
  room : l.walk.used ≤ 254;
  stop : l.walk.bound.stop ≤ length l.bytes;
  own : l.walk.end ≡ None;
  known : AreSizes l.bytes l.sizes;
}

abbrev pub decreases-loop-len : goal.decreases-loop-len
decreases-loop-len l = steps_left l.walk.run l.walk.used

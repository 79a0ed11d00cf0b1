use Rattle.std.proofs.Common.{◌≡◌, ◌≤◌, length, ◌↔◌}
use Rattle.dns_message.specs.Reading.{end_read}
use Rattle.dns_message.specs.Names.{resume, name_at, steps_left, NameIs}
use Rattle.dns_message.proofs.names.whole.skip_same_name.Given as goal

abbrev pub invariant-loop-end : goal.invariant-loop-end
invariant-loop-end g l = record {
  read : NameIs (resume l.bytes l.walk) l.labels ↔ NameIs (name_at l.bytes l.offset) l.name;
  ends : end_read (resume l.bytes l.walk) ≡ end_read (name_at l.bytes l.offset);
  room : l.walk.used ≤ 254;
  stop : l.walk.bound.stop ≤ length l.bytes;
}

abbrev pub decreases-loop-end : goal.decreases-loop-end
decreases-loop-end g l = steps_left l.walk.run l.walk.used

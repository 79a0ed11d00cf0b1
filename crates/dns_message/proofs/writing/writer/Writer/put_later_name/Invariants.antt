use Rattle.std.proofs.Common.{◌≡◌, ◌≤◌, false, length}
use Rattle.dns_message.proofs.writing.WriterLaws.{OnTheWay}
use Rattle.dns_message.proofs.writing.writer.Writer.put_later_name.Given as goal

abbrev pub invariant-loop-label : goal.invariant-loop-label
invariant-loop-label g l = record {
  start : l.start ≡ length l.initial.self.octets.items;
  within : length l.rest ≤ length l.name;
  way : OnTheWay l.initial.self l.self l.name l.rest false;
}

abbrev pub decreases-loop-label : goal.decreases-loop-label
decreases-loop-label g l = length l.rest

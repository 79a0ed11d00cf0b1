use Rattle.std.proofs.Common.{◌≡◌, ◌+◌, length}
use Rattle.dns_message.specs.Sizes.{AreSizes}
use Rattle.dns_message.specs.Spans.{sections_of, spans_at}
use Rattle.dns_message.proofs.reading.spans.readable_records.Given as goal

abbrev pub invariant-loop-after : goal.invariant-loop-after
invariant-loop-after l = record {
  told : l.count + length (spans_at l.bytes (sections_of l.left) l.at) ≡ length (spans_at l.bytes (sections_of l.fn.left) l.offset);
  room : l.count + length (sections_of l.left) ≡ length (sections_of l.fn.left);
  known : AreSizes l.bytes l.sizes;
}

abbrev pub decreases-loop-after : goal.decreases-loop-after
decreases-loop-after l = length (sections_of l.left)

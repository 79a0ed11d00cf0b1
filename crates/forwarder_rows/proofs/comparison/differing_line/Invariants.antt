use Rattle.std.proofs.Common.{◌≡◌, ◌+◌, ◌≤◌, length}
use Rattle.forwarder_rows.specs.Lines.{line_feeds_before}
use Rattle.forwarder_rows.proofs.comparison.differing_line.Given as goal

abbrev pub invariant-loop-octet : goal.invariant-loop-octet
invariant-loop-octet l = record {
  counted : l.line + line_feeds_before l.wanted l.given ≡ line_feeds_before l.initial.wanted l.initial.given;
  few : l.line + length l.wanted ≤ length l.initial.wanted;
}

abbrev pub decreases-loop-octet : goal.decreases-loop-octet
decreases-loop-octet l = length l.wanted

use Rattle.std.proofs.Common.{◌≡◌, length}
use Rattle.dns_message.specs.Messages.{AreShaped}
use Rattle.trust_rank.specs.Sets.{records_for}
use Rattle.trust_rank.proofs.sets.set_among.Given as goal

abbrev pub invariant-loop-first : goal.invariant-loop-first
invariant-loop-first g l = record {
  shaped : AreShaped l.rest;
  left : records_for l.key l.rest ≡ records_for l.key l.records;
}

abbrev pub decreases-loop-first : goal.decreases-loop-first
decreases-loop-first g l = length l.rest

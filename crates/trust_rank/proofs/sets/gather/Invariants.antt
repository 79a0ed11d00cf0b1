use Rattle.std.proofs.Common.{◌≡◌, [], ◌∷◌, drop}
use Rattle.std.specs.Prelude.{min}
use Rattle.trust_rank.specs.Sets.{longest, seconds_of}
use Rattle.trust_rank.specs.Gathering.{Indexes, added_all, lowered_by_all}
use Rattle.trust_rank.proofs.sets.gather.Given as goal

abbrev pub invariant-loop-record : goal.invariant-loop-record
invariant-loop-record g l = record {
  index : Indexes l.gathered.index l.gathered.rows;
  rows : added_all l.key l.gathered.rows (drop l.record-index l.others) ≡ added_all l.key (l.first.rdata ∷ []) l.others;
  lifetime : lowered_by_all l.key l.gathered.lifetime (drop l.record-index l.others) ≡ lowered_by_all l.key (min longest (seconds_of l.first.ttl)) l.others;
}

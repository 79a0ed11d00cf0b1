use Rattle.std.proofs.Common.{◌≡◌, drop}
use Rattle.trust_rank.specs.Denials.{soa_for}
use Rattle.trust_rank.proofs.denials.find_soa.Given as goal

abbrev pub invariant-loop-record : goal.invariant-loop-record
invariant-loop-record g l = soa_for l.name l.class (drop l.record-index l.authority) ≡ soa_for l.name l.class l.authority

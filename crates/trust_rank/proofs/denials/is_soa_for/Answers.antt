use Rattle.std.proofs.Common.{rules}
use Rattle.trust_rank.proofs.denials.is_soa_for.Goals as goal

pub returns-then-record-class : goal.returns-then-record-class
returns-then-record-class g c = search rules

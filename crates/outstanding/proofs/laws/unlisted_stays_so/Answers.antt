use Rattle.outstanding.proofs.Retries.{unlisted_stays}
use Rattle.outstanding.proofs.laws.unlisted_stays_so.Goals as goal

pub returns : goal.returns
returns c = unlisted_stays

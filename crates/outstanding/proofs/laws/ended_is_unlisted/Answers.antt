use Rattle.outstanding.proofs.Retries.{ended_unlisted}
use Rattle.outstanding.proofs.laws.ended_is_unlisted.Goals as goal

pub returns : goal.returns
returns c = ended_unlisted

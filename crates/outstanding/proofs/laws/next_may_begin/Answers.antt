use Rattle.outstanding.proofs.Retries.{next_begins}
use Rattle.outstanding.proofs.laws.next_may_begin.Goals as goal

pub returns : goal.returns
returns c = next_begins

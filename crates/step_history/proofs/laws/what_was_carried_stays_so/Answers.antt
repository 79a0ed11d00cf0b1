use Rattle.step_history.proofs.Since.{carried_since}
use Rattle.step_history.proofs.laws.what_was_carried_stays_so.Goals as goal

pub returns : goal.returns
returns c = carried_since

use Rattle.worked_claims.proofs.Rows.{ask_once, close_once, close_listed}
use Rattle.worked_claims.proofs.laws.steps_ask_and_close_once.Goals as goal

pub returns-clause-asks : goal.returns-clause-asks
returns-clause-asks c = ask_once

pub returns-clause-closes : goal.returns-clause-closes
returns-clause-closes c = close_once

pub returns-clause-listed : goal.returns-clause-listed
returns-clause-listed c = close_listed

use Rattle.step_history.proofs.Moments.{moment_later, moment_small}
use Rattle.step_history.proofs.laws.moments_never_fall.Goals as goal

pub returns-clause-later : goal.returns-clause-later
returns-clause-later c = moment_later

pub returns-clause-in_time : goal.returns-clause-in_time
returns-clause-in_time c = moment_small

use Rattle.step_history.proofs.FirstVersion.{first_version_stands_alone}
use Rattle.step_history.proofs.laws.first_version_stands_alone.Goals as goal

pub returns : goal.returns
returns c = first_version_stands_alone

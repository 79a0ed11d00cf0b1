use Rattle.suffix_routes.proofs.FirstVersion.{first_version}
use Rattle.suffix_routes.proofs.laws.first_version_has_neither.Goals as goal

pub returns : goal.returns
returns c = first_version

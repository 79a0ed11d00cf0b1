use Rattle.suffix_routes.proofs.ServingLaws.{nothing_is_denied}
use Rattle.suffix_routes.proofs.laws.nothing_is_denied.Goals as goal

pub returns : goal.returns
returns c = nothing_is_denied

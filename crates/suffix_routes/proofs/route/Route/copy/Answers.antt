use Rattle.std.proofs.Common.{rules}
use Rattle.suffix_routes.proofs.route.Route.copy.Goals as goal

pub returns : goal.returns
returns g c = search rules

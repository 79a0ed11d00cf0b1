use Rattle.std.proofs.Common.{rules}
use Rattle.suffix_routes.proofs.config.Config.routes.Goals as goal

pub returns-clause-routes : goal.returns-clause-routes
returns-clause-routes g c = search rules

use Rattle.std.proofs.Common.{rules}
use Rattle.suffix_routes.proofs.RouteLaws.{computed}
use Rattle.suffix_routes.proofs.config.Config.route_of_key.Goals as goal

pub returns-clause-computed : goal.returns-clause-computed
returns-clause-computed g c =
    computed c.args.self.now.routes c.args.key.now c.longest.result c.routes.ensures.accepted.differ (rw c.routes.ensures.routes at c.longest.ensures)

pub returns-clause-longest : goal.returns-clause-longest
returns-clause-longest g c = search rules

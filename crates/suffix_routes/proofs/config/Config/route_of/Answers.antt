use Rattle.std.proofs.Common.{◌∙◌}
use Rattle.dns_name.specs.Labels.{lowered}
use Rattle.dns_name.proofs.CallerLemmas.{lowered_is_same}
use Rattle.suffix_routes.proofs.RouteLaws.{answer_of_same, route_of-lowered}
use Rattle.suffix_routes.proofs.config.Config.route_of.Goals as goal

pub returns-clause-longest : goal.returns-clause-longest
returns-clause-longest g c =
    answer_of_same c.args.self.now.routes (lowered c.args.name.now) c.args.name.now c.route_of_key.result (lowered_is_same c.args.name.now) (rw c.key.ensures at c.route_of_key.ensures.longest)

pub returns-clause-computed : goal.returns-clause-computed
returns-clause-computed g c =
    (rw c.key.ensures at c.route_of_key.ensures.computed) ∙ route_of-lowered c.args.self.now.routes c.args.name.now

use Rattle.toml.specs.View.{table_view}
use Rattle.suffix_routes.proofs.ReadRoutes.{routes_accepted}
use Rattle.suffix_routes.proofs.config.Config.from_table.Goals as goal

pub invariant_of-result : goal.invariant_of-result
invariant_of-result g c =
    let routes = routes_accepted c.in_ok-version.version (table_view c.args.table.now) c.in_ok-routes.routes c.in_ok-routes.ensures in
    record {
      limits = c.in_ok-limits.ensures.accepted;
      count = routes.1;
      each = routes.0.each;
      differ = routes.0.differ;
    }

use Rattle.suffix_routes.proofs.ReadRoutes.{suffix_is_new, group_range}
use Rattle.suffix_routes.proofs.read_route.read_route.Goals as goal

pub invariant_of-result : goal.invariant_of-result
invariant_of-result g c =
    let group = group_range c.in_ok-deny.deny _ _ c.in_ok-servers.servers c.in_ok-servers.ensures in
    record {
      suffix = (suffix_is_new _ _ c.in_ok-suffix.suffix c.in_ok-suffix.ensures).name;
      serves = group.0;
      denies = group.1;
    }

use Rattle.std.proofs.Common.{◌≡◌, length}
use Rattle.dns_name.specs.Labels.{labels_of, lowered, IsLaidOut, IsUnder}
use Rattle.suffix_routes.specs.Routes.{route_of}
use Rattle.negative_cache.specs.BySlot.{slots_of, above, name_error_on}
use Rattle.negative_cache.proofs.errors.nearest_above.Given as goal

abbrev pub invariant-loop-higher : goal.invariant-loop-higher
invariant-loop-higher g l = record {
  laid : IsLaidOut l.rest;
  under : IsUnder l.question.name (labels_of l.rest);
  left : above (name_error_on l.at.config.routes (route_of l.at.config.routes (lowered l.question.name)) l.at.moment (slots_of l.at.cache.entries) l.question.class) (lowered (labels_of l.rest))
      ≡ above (name_error_on l.at.config.routes (route_of l.at.config.routes (lowered l.question.name)) l.at.moment (slots_of l.at.cache.entries) l.question.class) (lowered l.question.name);
}

abbrev pub decreases-loop-higher : goal.decreases-loop-higher
decreases-loop-higher g l = length l.rest

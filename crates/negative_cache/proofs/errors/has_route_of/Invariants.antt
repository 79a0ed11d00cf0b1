use Rattle.std.proofs.Common.{◌≡◌, ◌<◌, ◌≤◌, ◌+◌, ℕ, Some, length}
use Rattle.std.specs.Prelude.{slice_get}
use Rattle.dns_name.specs.Labels.{labels_of, IsUnder, size_of}
use Rattle.suffix_routes.specs.Values.{Route}
use Rattle.negative_cache.proofs.errors.has_route_of.Given as goal

abbrev pub invariant-loop-route : goal.invariant-loop-route
invariant-loop-route g l = (k : ℕ) (other : Route) → k < l.route-index → slice_get l.routes k ≡ Some other → IsUnder (labels_of l.asked) other.suffix → size_of other.suffix ≤ length l.octets + 1

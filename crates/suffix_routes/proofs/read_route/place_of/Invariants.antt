use Rattle.std.proofs.Common.{◌≡◌, ◌<◌, ℕ, Some, false}
use Rattle.std.specs.Prelude.{slice_get}
use Rattle.dns_name.specs.Labels.{same}
use Rattle.suffix_routes.specs.Values.{Route}
use Rattle.suffix_routes.proofs.read_route.place_of.Given as goal

abbrev pub invariant-loop-place : goal.invariant-loop-place
invariant-loop-place g l = (k : ℕ) (r : Route) → k < l.place → slice_get l.routes k ≡ Some r → same l.name r.suffix ≡ false

use Rattle.std.proofs.Common.{arith, ◌≡◌, Some, false, true, sym, ap, refl, length, ◌∙◌}
use Rattle.std.specs.Prelude.{slice_get}
use Rattle.std.proofs.lemmas.Option.{slice_get_read, slice_get_within}
use Rattle.dns_name.specs.Labels.{same}
use Rattle.dns_name.proofs.CallerLemmas.{same_decides, answer_is_test}
use Rattle.suffix_routes.specs.Values.{Route}
use Rattle.suffix_routes.proofs.ReadRoutes.{first_at, none_first, one_more}
use Rattle.suffix_routes.proofs.read_route.place_of.Goals as goal

pub returns-then-same : goal.returns-then-same
returns-then-same g c =
    let routes = c.args.routes.now in
    let r = c.index-routes-place.result in
    let there : slice_get routes c.loop-place.place ≡ Some r = slice_get_read routes (length routes) c.loop-place.place r refl c.loop-place-test.true c.index-routes-place.is in
    let suffix : r.suffix ≡ c.route.inside.suffix = ap (λ (x : Route). x.suffix) (sym c.route.view_is) in
    let pass : same c.args.name.now r.suffix ≡ true = rw suffix ((same_decides c.args.name.now c.route.inside.suffix).1 (c.same.ensures.0 c.if-same.true)) in
    sym (first_at (λ x. same c.args.name.now x.suffix) routes c.loop-place.place r c.loop-place.invariant there pass)

pub loop-place-preserved : goal.loop-place-preserved
loop-place-preserved g c =
    let routes = c.args.routes.now in
    let r = c.index-routes-place.result in
    let there : slice_get routes c.loop-place.place ≡ Some r = slice_get_read routes (length routes) c.loop-place.place r refl c.loop-place-test.true c.index-routes-place.is in
    let suffix : r.suffix ≡ c.route.inside.suffix = ap (λ (x : Route). x.suffix) (sym c.route.view_is) in
    let answer : c.same.result ≡ same c.args.name.now c.route.inside.suffix = answer_is_test c.same.result (same c.args.name.now c.route.inside.suffix) c.same.ensures (same_decides c.args.name.now c.route.inside.suffix) in
    let fail : same c.args.name.now r.suffix ≡ false = rw suffix (sym answer ∙ c.if-same.false) in
    one_more (λ x. same c.args.name.now x.suffix) routes c.loop-place.place r c.loop-place.invariant there fail

pub returns : goal.returns
returns g c =
    sym (none_first (λ x. same c.args.name.now x.suffix) c.args.routes.now
    (λ k r there. c.loop-place.invariant k r (omega (arith, c.loop-place-test.false, slice_get_within c.args.routes.now k r there)) there))

use Rattle.std.proofs.Common.{arith, ◌≡◌, ◌≤◌, ◌+◌, ◌∙◌, sym, ap, refl, Some, length}
use Rattle.std.specs.Prelude.{slice_get}
use Rattle.std.proofs.lemmas.Option.{slice_get_read}
use Rattle.dns_name.specs.Labels.{IsUnder, size_of}
use Rattle.suffix_routes.specs.Values.{Route}
use Rattle.suffix_routes.proofs.RouteLaws.{passed_over, taken, best_of_all}
use Rattle.suffix_routes.proofs.config.longest.Goals as goal
use Rattle.suffix_routes.proofs.config.longest.Goals.{then-size-octets+then-is_under, else-size-octets, else-size-octets-via-then-size-octets+else-is_under, else-size-octets-via-else-size-octets}

pub loop-place-preserved : goal.loop-place-preserved
loop-place-preserved g c =
    let routes = c.args.routes.now in
    let name = c.args.key.now in
    let i = c.loop-place.place in
    let r = c.index-routes-place.result in
    let there : slice_get routes i ≡ Some r = slice_get_read routes (length routes) i r refl c.loop-place-test.true c.index-routes-place.is in
    let suffix : r.suffix ≡ c.route.inside.suffix = ap (λ (x : Route). x.suffix) (sym c.route.view_is) in
    let size : length c.octets-octets.result.now + 1 ≡ size_of r.suffix = c.octets-octets.ensures.size ∙ ap size_of (sym suffix) in
    elim c.if-size-octets.branch [
      | then-size-octets+then-is_under w ↦
          let under : IsUnder name r.suffix = rw suffix (w.is_under.ensures.0 w.if-is_under.true) in
          rw (w.found-is, w.size-is, size) (taken routes name i c.loop-place.found c.loop-place.size r there c.loop-place.invariant under (omega (arith, size, w.if-size-octets.true)))
      | else-size-octets w ↦
          let short : IsUnder name r.suffix → size_of r.suffix ≤ c.loop-place.size = elim w.else-size-octets.branch [
            | else-size-octets-via-then-size-octets+else-is_under v ↦ λ under. absurd (let yes = v.is_under.ensures.1 (rw suffix at under) in let no = v.if-is_under.false in cc)
            | else-size-octets-via-else-size-octets v ↦ λ under. omega (arith, size, v.if-size-octets.false)
          ] in
          rw (w.found-is, w.size-is) (passed_over routes name i c.loop-place.found c.loop-place.size r there c.loop-place.invariant short)
    ]

pub returns : goal.returns
returns g c =
    let end : c.loop-place.place ≡ length c.args.routes.now = omega (arith, c.loop-place-test.false, c.loop-place.auto.place-end) in
    best_of_all c.args.routes.now c.args.key.now c.loop-place.found c.loop-place.size (rw end at c.loop-place.invariant)

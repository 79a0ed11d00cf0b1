use Rattle.std.proofs.Common.{◌≡◌, ◌≤◌, ◌+◌, ◌<◌, ◌∙◌, ℕ, List, [], Some, false, true, inl, inr, length, sym, ap, refl, subst, arith}
use Rattle.std.specs.Prelude.{slice_get, nat_eq}
use Rattle.std.specs.Option.{option_eq}
use Rattle.std.proofs.lemmas.Option.{slice_get_read, slice_get_within}
use Rattle.std.proofs.lemmas.Bool.{cases_lt}
use Rattle.dns_name.specs.Labels.{labels_of, size_of, IsLaidOut, IsUnder}
use Rattle.dns_name.proofs.CallerLemmas.{size_with_labels}
use Rattle.suffix_routes.specs.Values.{Route, AllDiffer}
use Rattle.suffix_routes.specs.Routes.{route_of}
use Rattle.suffix_routes.proofs.CallerLemmas.{routes_above_same, routes_above_differ}
use Rattle.negative_cache.proofs.Options.{option_decides, option_differs}
use Rattle.negative_cache.proofs.errors.has_route_of.Goals as goal

-- no route before place i has a longer suffix for the name than `size`
abbrev NoneLonger : List Route → List (List ℕ) → ℕ → ℕ → Type 0
NoneLonger routes name size i = (k : ℕ) (other : Route) → k < i → slice_get routes k ≡ Some other → IsUnder name other.suffix → size_of other.suffix ≤ size

size_is : (octets : List ℕ) → IsLaidOut octets → size_of (labels_of octets) ≡ length octets + 1
size_is octets laid = let size : size_of (labels_of octets) ≡ 1 + length octets = size_with_labels [] octets laid in omega (arith, size)

-- a further route, with no longer suffix
one_more : (routes : List Route) (name : List (List ℕ)) (size i : ℕ) (r : Route) → slice_get routes i ≡ Some r → NoneLonger routes name size i
    → (IsUnder name r.suffix → size_of r.suffix ≤ size) → NoneLonger routes name size (i + 1)
one_more routes name size i r there before short k other lt found under =
    elim (cases_lt k i) [
      | inl below ↦ before k other below found under
      | inr above ↦
          let place : k ≡ i = omega (arith, above, lt) in
          let both : slice_get routes i ≡ Some other = subst (λ (n : ℕ). slice_get routes n ≡ Some other) place found in
          let same : Some r ≡ Some other = sym there ∙ both in
          let one : r ≡ other = cc in
          subst (λ (x : Route). size_of x.suffix ≤ size) one (short (subst (λ (x : Route). IsUnder name x.suffix) (sym one) under))
    ]

-- no suffix is longer
stays : (routes all : List Route) (name above : List (List ℕ)) (size i : ℕ) → routes ≡ all → AllDiffer all → IsUnder name above → size_of above ≡ size
    → length routes ≤ i → NoneLonger routes name size i → true ≡ option_eq nat_eq (route_of all above) (route_of all name)
stays routes all name above size i same differ under is end none =
    sym ((option_decides (route_of all above) (route_of all name)).1 (routes_above_same all name above differ under short))
  where
    short : (k : ℕ) (other : Route) → slice_get all k ≡ Some other → IsUnder name other.suffix → size_of other.suffix ≤ size_of above
    short k other there mine =
        let found : slice_get routes k ≡ Some other = subst (λ (rs : List Route). slice_get rs k ≡ Some other) (sym same) there in
        omega (arith, is, none k other (omega (arith, end, slice_get_within routes k other found)) found mine)

-- a suffix is longer
leaves : (routes all : List Route) (name above : List (List ℕ)) (size i : ℕ) (r : Route) → routes ≡ all → IsUnder name above → size_of above ≡ size
    → slice_get routes i ≡ Some r → IsUnder name r.suffix → size < size_of r.suffix → false ≡ option_eq nat_eq (route_of all above) (route_of all name)
leaves routes all name above size i r same under is there mine long =
    sym (option_differs (route_of all above) (route_of all name)
    (routes_above_differ all name above i r under (subst (λ (rs : List Route). slice_get rs i ≡ Some r) same there) mine (omega (arith, is, long))))

pub returns-then-is_under_longer : goal.returns-then-is_under_longer
returns-then-is_under_longer g c =
    let routes = c.routes-routes.result.now in
    let octets = c.args.octets.now in
    let r = c.route-item.result in
    let i = c.loop-route.route-index in
    let there : slice_get routes i ≡ Some r = slice_get_read routes (length routes) i r refl c.loop-route-test.true c.route-item.is in
    let suffix : r.suffix ≡ c.route.inside.suffix = ap (λ (x : Route). x.suffix) (sym c.route.view_is) in
    let found = c.is_under_longer.ensures.0 c.if-is_under_longer.true in
    leaves routes c.args.config.now.routes (labels_of c.args.asked.now) (labels_of octets) (length octets + 1) i r c.routes-routes.ensures.routes c.requires.under (size_is octets c.requires.laid)
    there (rw suffix found.0) (rw suffix found.1)

pub loop-route-preserved : goal.loop-route-preserved
loop-route-preserved g c =
    let routes = c.routes-routes.result.now in
    let size : ℕ = length c.args.octets.now + 1 in
    let r = c.route-item.result in
    let i = c.loop-route.route-index in
    let there : slice_get routes i ≡ Some r = slice_get_read routes (length routes) i r refl c.loop-route-test.true c.route-item.is in
    let suffix : r.suffix ≡ c.route.inside.suffix = ap (λ (x : Route). x.suffix) (sym c.route.view_is) in
    one_more routes (labels_of c.args.asked.now) size i r there c.loop-route.invariant
    (λ under. elim (cases_lt size (size_of r.suffix)) [
      | inl longer ↦ absurd (let yes = c.is_under_longer.ensures.1 (rw suffix at under, rw suffix at longer) in let no = c.if-is_under_longer.false in cc)
      | inr short ↦ short
    ])

pub returns : goal.returns
returns g c =
    let octets = c.args.octets.now in
    stays c.routes-routes.result.now c.args.config.now.routes (labels_of c.args.asked.now) (labels_of octets) (length octets + 1) c.loop-route.route-index
    c.routes-routes.ensures.routes c.routes-routes.ensures.accepted.differ c.requires.under (size_is octets c.requires.laid) c.loop-route-test.false c.loop-route.invariant

use Rattle.std.proofs.Common.{◌≡◌, Bool, true, false, ℕ, List, sym, ◌∙◌}
use Rattle.std.specs.Prelude.{nat_eq}
use Rattle.std.specs.Option.{option_eq}
use Rattle.dns_name.specs.Labels.{labels_of, lowered}
use Rattle.suffix_routes.specs.Values.{Route}
use Rattle.suffix_routes.specs.Routes.{route_of}
use Rattle.suffix_routes.proofs.CallerLemmas.{route_of_lowered}
use Rattle.negative_cache.proofs.Climbing.{on_route, off_route}
use Rattle.negative_cache.proofs.errors.name_error_on.Goals as goal

-- the answer for two names is the answer for their keys
of_keys : (routes : List Route) (name asked : List (List ℕ)) (told said : Bool) → told ≡ option_eq nat_eq (route_of routes name) (route_of routes asked) → told ≡ said
    → option_eq nat_eq (route_of routes (lowered name)) (route_of routes (lowered asked)) ≡ said
of_keys routes name asked told said is so = (λ i. option_eq nat_eq (route_of_lowered routes name i) (route_of_lowered routes asked i)) ∙ sym is ∙ so

pub returns-then-has_route_of-clause-found : goal.returns-then-has_route_of-clause-found
returns-then-has_route_of-clause-found g c =
    let at = c.args.at.now in
    let routes = at.config.routes in
    let name = labels_of c.args.octets.now in
    let asked = c.args.question.now.name in
    on_route routes (route_of routes (lowered asked)) at.moment c.args.question.now.class at.cache.entries (lowered name) c.in_ok-held.held.now (rw (← c.class.ensures) c.in_ok-held.ensures.found)
    (of_keys routes name asked _ true (rw (← c.at.view_is, ← c.name.ensures.labels) c.has_route_of.ensures) c.if-has_route_of.true)

pub returns-else-has_route_of-clause-found : goal.returns-else-has_route_of-clause-found
returns-else-has_route_of-clause-found g c =
    let at = c.args.at.now in
    let routes = at.config.routes in
    let name = labels_of c.args.octets.now in
    let asked = c.args.question.now.name in
    off_route routes (route_of routes (lowered asked)) at.moment c.args.question.now.class at.cache.entries (lowered name) c.in_ok-held.held.now (rw (← c.class.ensures) c.in_ok-held.ensures.found)
    (of_keys routes name asked _ false (rw (← c.at.view_is, ← c.name.ensures.labels) c.has_route_of.ensures) c.if-has_route_of.false)

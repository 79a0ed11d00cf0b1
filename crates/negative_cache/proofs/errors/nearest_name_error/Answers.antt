use Rattle.std.proofs.Common.{◌≡◌, ℕ, false, sym, subst, ◌∙◌}
use Rattle.dns_name.specs.Labels.{labels_of, lowered}
use Rattle.suffix_routes.specs.Routes.{route_of}
use Rattle.record_cache.specs.Entries.{may_deny_at}
use Rattle.negative_cache.proofs.Climbing.{none_near, own_is_nearest, own_is_none}
use Rattle.negative_cache.proofs.errors.nearest_name_error.Goals as goal

pub returns-then-not-may_deny-clause-found : goal.returns-then-not-may_deny-clause-found
returns-then-not-may_deny-clause-found g c =
    let key = lowered c.args.question.now.name in
    rw (← c.at.view_is) (sym (none_near c.at.inside.config.now.routes (route_of c.at.inside.config.now.routes key) c.at.inside.moment c.args.question.now.class c.at.inside.cache.now.entries key
    (subst (λ (n : ℕ). may_deny_at n c.at.inside.cache.now.entries ≡ false) c.requires (sym c.may_deny.ensures.says ∙ c.if-not-may_deny.true))))

pub returns-in-Some-clause-found : goal.returns-in-Some-clause-found
returns-in-Some-clause-found g c =
    rw (← c.name.ensures.labels, ← c.class.ensures) (sym (own_is_nearest c.args.at.now.config.routes c.args.at.now.moment c.class.result c.args.at.now.cache.entries (lowered (labels_of c.name.result.now)) c.in-Some.held.now (sym c.in-Some.ensures.found)))

pub returns-clause-found : goal.returns-clause-found
returns-clause-found g c =
    c.nearest_above.ensures.found
    ∙ rw (← c.name.ensures.labels, ← c.class.ensures) (sym (own_is_none c.args.at.now.config.routes c.args.at.now.moment c.class.result c.args.at.now.cache.entries (lowered (labels_of c.name.result.now)) (sym c.in_default.ensures.found)))

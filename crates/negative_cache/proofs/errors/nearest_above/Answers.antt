use Rattle.std.proofs.Common.{ℕ, List, map, sym, ap, subst, ◌∙◌}
use Rattle.std.specs.Char.{to_ascii_lowercase}
use Rattle.dns_name.specs.Labels.{labels_of, lowered, IsUnder}
use Rattle.dns_name.proofs.CallerLemmas.{under_itself, labels_of_nothing}
use Rattle.suffix_routes.specs.Routes.{route_of}
use Rattle.negative_cache.specs.BySlot.{slots_of, above, name_error_on}
use Rattle.negative_cache.proofs.Climbing.{under_higher, found_higher, none_higher}
use Rattle.negative_cache.proofs.errors.nearest_above.Goals as goal

pub loop-higher-init : goal.loop-higher-init
loop-higher-init g c =
    let at = c.args.at.now in
    let q = c.args.question.now in
    record {
      laid = c.name-rest.ensures.laid;
      under = subst (IsUnder q.name) (sym c.name-rest.ensures.labels) (under_itself q.name);
      left = ap (λ (name : List (List ℕ)). above (name_error_on at.config.routes (route_of at.config.routes (lowered q.name)) at.moment (slots_of at.cache.entries) q.class) (lowered name)) c.name-rest.ensures.labels;
    }

pub name_error_on-requires-clause-under : goal.name_error_on-requires-clause-under
name_error_on-requires-clause-under g c =
    under_higher c.args.question.now.name (labels_of c.loop-higher.rest.now) (labels_of c.in-Some.higher.now) c.in-Some.field-0-0.now c.in-Some.ensures.labels c.loop-higher.invariant.under

pub returns-in-Some-name_error_on-clause-found : goal.returns-in-Some-name_error_on-clause-found
returns-in-Some-name_error_on-clause-found g c =
    let at = c.args.at.now in
    let key = lowered c.args.question.now.name in
    let there = name_error_on at.config.routes (route_of at.config.routes key) at.moment (slots_of at.cache.entries) c.args.question.now.class in
    found_higher there key (lowered (labels_of c.loop-higher.rest.now)) (lowered (labels_of c.in-Some.higher.now)) (map to_ascii_lowercase c.in-Some.field-0-0.now) c.in-Some-name_error_on.held.now
    (ap lowered c.in-Some.ensures.labels) c.loop-higher.invariant.left (sym c.in-Some-name_error_on.ensures.found)

pub loop-higher-preserved : goal.loop-higher-preserved
loop-higher-preserved g c =
    let at = c.args.at.now in
    let now = c.loop-higher.invariant in
    let key = lowered c.args.question.now.name in
    let there = name_error_on at.config.routes (route_of at.config.routes key) at.moment (slots_of at.cache.entries) c.args.question.now.class in
    let rest = labels_of c.loop-higher.rest.now in
    let higher = labels_of c.in-Some.higher.now in
    record {
      laid = c.in-Some.ensures.laid;
      under = under_higher c.args.question.now.name rest higher c.in-Some.field-0-0.now c.in-Some.ensures.labels now.under;
      left = none_higher there key (lowered rest) (lowered higher) (map to_ascii_lowercase c.in-Some.field-0-0.now) (ap lowered c.in-Some.ensures.labels) now.left (sym c.in_default-name_error_on.ensures.found);
    }

pub returns-clause-found : goal.returns-clause-found
returns-clause-found g c =
    let at = c.args.at.now in
    let key = lowered c.args.question.now.name in
    let there = name_error_on at.config.routes (route_of at.config.routes key) at.moment (slots_of at.cache.entries) c.args.question.now.class in
    ap (λ (name : List (List ℕ)). above there (lowered name)) (sym (ap labels_of c.in_default.ensures ∙ labels_of_nothing)) ∙ c.loop-higher.invariant.left

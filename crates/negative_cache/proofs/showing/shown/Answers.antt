use Rattle.std.proofs.Common.{◌≡◌, List, ℕ, false, sym, ap, subst, ◌∙◌, rules}
use Rattle.dns_name.specs.Labels.{labels_of, lowered}
use Rattle.dns_name.proofs.CallerLemmas.{labels_of_nothing}
use Rattle.record_cache.specs.Values.{Held, Cache}
use Rattle.record_cache.specs.Entries.{may_deny, may_deny_at}
use Rattle.negative_cache.specs.Showing.{shown}
use Rattle.negative_cache.proofs.Forgetting.{forgotten_above, forgotten_all, nothing_shown, cache_is}
use Rattle.negative_cache.proofs.showing.shown.Goals as goal

pub returns-then-not-may_deny : goal.returns-then-not-may_deny
returns-then-not-may_deny g c =
    let with_entries : List Held → Cache = λ es. record { capacity = c.args.cache.now.capacity; entries = es } in
    ap with_entries (sym (nothing_shown c.args.name.now c.args.class c.args.cache.now.entries c.may_deny.ensures.held.formed
    (subst (λ (name : List (List ℕ)). may_deny (lowered name) c.args.cache.now.entries ≡ false) c.octets-rest.ensures.labels
    (subst (λ (n : ℕ). may_deny_at n c.args.cache.now.entries ≡ false) c.ending.ensures.ending (sym c.may_deny.ensures.says ∙ c.if-not-may_deny.true)))))

pub returns : goal.returns
returns g c =
    let now = c.loop-higher.invariant in
    let entries = c.loop-higher.cache.entries in
    let root = ap labels_of c.in_default.ensures ∙ labels_of_nothing in
    cache_is c.loop-higher.cache c.args.cache.now (shown c.args.name.now c.args.class c.args.cache.now.entries) now.capacity
    (sym (ap (λ (labels : List (List ℕ)). forgotten_above c.args.class labels entries) root) ∙ now.left ∙ forgotten_all c.args.class c.args.name.now c.args.cache.now.entries c.forget_name_error.ensures.held.formed)

pub loop-higher-preserved : goal.loop-higher-preserved
loop-higher-preserved g c = search rules

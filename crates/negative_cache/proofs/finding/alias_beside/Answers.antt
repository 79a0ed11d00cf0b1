use Rattle.std.proofs.Common.{◌≡◌, ℕ, false, sym, subst, ◌∙◌}
use Rattle.record_cache.specs.Entries.{may_have_alias_at}
use Rattle.negative_cache.proofs.Sizes.{no_alias}
use Rattle.negative_cache.proofs.finding.alias_beside.Goals as goal

pub returns-then-not-may_have_alias-clause-alias : goal.returns-then-not-may_have_alias-clause-alias
returns-then-not-may_have_alias-clause-alias g c =
    rw (← c.at.view_is) (sym (no_alias c.at.inside.moment c.args.slot.now.class c.args.kind c.args.slot.now.key c.at.inside.cache.now.entries
    (subst (λ (n : ℕ). may_have_alias_at n c.at.inside.cache.now.entries ≡ false) c.requires (sym c.may_have_alias.ensures.says ∙ c.if-not-may_have_alias.true))))

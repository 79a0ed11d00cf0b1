use Rattle.std.proofs.Common.{◌∙◌, ap}
use Rattle.dns_name.specs.Labels.{labels_of}
use Rattle.negative_cache.specs.Stale.{stale}
use Rattle.alias_chains.proofs.stale_look_up.stale_at.Goals as goal

pub returns : goal.returns
returns g c =
    c.find_stale.ensures
    ∙ ap (stale c.args.window c.args.at.now.moment c.args.at.now.cache.entries)
    (c.from_octets-wanted.ensures ∙ (λ i. record { name = labels_of c.args.name.now; kind = c.kind.ensures i; class = c.class.ensures i }))

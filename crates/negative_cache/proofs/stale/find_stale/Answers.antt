use Rattle.std.proofs.Common.{ℕ, List, ap, ◌∙◌}
use Rattle.negative_cache.specs.Stale.{stale}
use Rattle.negative_cache.proofs.stale.find_stale.Goals as goal

pub returns : goal.returns
returns g c =
    c.look_up.ensures
    ∙ ap (stale c.args.window c.args.moment c.args.cache.now.entries) c.from_octets-question.ensures
    ∙ ap (λ (name : List (List ℕ)). stale c.args.window c.args.moment c.args.cache.now.entries (record { name = name; kind = c.args.kind; class = c.args.class })) c.octets.ensures.labels

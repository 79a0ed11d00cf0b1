use Rattle.std.proofs.Common.{ap, nat_lt, ◌∙◌}
use Rattle.std.specs.Map.{values_of}
use Rattle.record_cache.specs.Values.{Cache}
use Rattle.record_cache.specs.Entries.{alias_ending, may_have_alias_at}
use Rattle.record_cache.proofs.Counting.{some_number}
use Rattle.record_cache.proofs.cache.Cache.may_have_alias.Goals as goal

pub returns-clause-says : goal.returns-clause-says
returns-clause-says g c =
    c.has.ensures ∙ ap (nat_lt 0) (c.self.invariant.aliases c.args.ending) ∙ some_number alias_ending c.args.ending (values_of c.self.inside.entries.entries)
    ∙ ap (λ (cache : Cache). may_have_alias_at c.args.ending cache.entries) c.self.view_is

use Rattle.std.proofs.Common.{ap, nat_lt, ◌∙◌}
use Rattle.std.specs.Map.{values_of}
use Rattle.record_cache.specs.Values.{Cache}
use Rattle.record_cache.specs.Entries.{name_error_size, has_name_error}
use Rattle.record_cache.proofs.Counting.{some_number}
use Rattle.record_cache.proofs.cache.Cache.has_name_error.Goals as goal

pub returns-clause-says : goal.returns-clause-says
returns-clause-says g c =
    c.has.ensures ∙ ap (nat_lt 0) (c.self.invariant.sizes c.args.size) ∙ some_number name_error_size c.args.size (values_of c.self.inside.entries.entries)
    ∙ ap (λ (cache : Cache). has_name_error c.args.size cache.entries) c.self.view_is

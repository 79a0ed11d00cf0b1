use Rattle.std.proofs.Common.{ap, ◌∙◌}
use Rattle.std.specs.Map.{lookup}
use Rattle.record_cache.specs.Values.{Cache}
use Rattle.record_cache.specs.Entries.{entry_of}
use Rattle.record_cache.proofs.Stored.{as_found, eq, found}
use Rattle.record_cache.proofs.cache.Cache.peek.Goals as goal

pub returns-clause-found : goal.returns-clause-found
returns-clause-found g c = as_found c.peek.result (entry_of c.args.slot.now c.args.self.now.entries)
    (c.peek.ensures ∙ ap (λ k. lookup (eq k) c.self.inside.entries.entries) c.hashed_by-key.ensures ∙ found c.self.inside.entries c.self.inside.tables c.self.invariant c.args.slot.now ∙ ap (λ (cache : Cache). entry_of c.args.slot.now cache.entries) c.self.view_is)

use Rattle.std.proofs.Common.{ℕ, ap, ◌∙◌}
use Rattle.std.specs.Map.{lookup}
use Rattle.record_cache.specs.Entries.{entry_of}
use Rattle.record_cache.proofs.Stored.{as_found, eq, found}
use Rattle.record_cache.proofs.cache.Cache.look_up.Goals as goal

pub returns-clause-found : goal.returns-clause-found
returns-clause-found g c =
    let slot = c.slot.inside.hashed.slot in
    as_found c.peek.result (entry_of c.args.slot.now c.args.self.now.entries)
    (c.peek.ensures
    ∙ ap (λ (n : ℕ). lookup (eq (record { hash = n; slot = slot })) c.self.inside.entries.entries) c.hash_one-key.ensures
    ∙ found c.self.inside.entries c.self.inside.tables c.self.invariant slot
    ∙ (λ i. entry_of (c.slot.view_is i) ((c.self.view_is i).entries)))

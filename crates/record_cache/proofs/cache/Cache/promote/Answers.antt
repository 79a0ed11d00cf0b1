use Rattle.std.proofs.Common.{refl}
use Rattle.record_cache.proofs.Stored.{used_list, used_stored}
use Rattle.record_cache.proofs.cache.Cache.promote.Goals as goal

pub invariant_of-self : goal.invariant_of-self
invariant_of-self g c = rw (c.promote.ensures.entries, c.hashed_by-key.ensures) (used_stored c.self.inside.entries c.self.inside.tables c.self.invariant c.args.slot.now)

pub returns : goal.returns
returns g c = rw (c.promote.ensures.entries, c.hashed_by-key.ensures, ← c.self.view_is, used_list c.self.inside.entries c.self.inside.tables c.self.invariant c.args.slot.now) refl

use Rattle.std.proofs.Common.{rules, ◌∙◌}
use Rattle.record_cache.proofs.CallerLemmas.{entry_has_slot}
use Rattle.negative_cache.proofs.living.living_entry.Goals as goal

pub returns-then-is_alive-clause-slot : goal.returns-then-is_alive-clause-slot
returns-then-is_alive-clause-slot g c = c.in_ok-held.ensures.slot ∙ entry_has_slot c.args.slot.now c.at.inside.cache.now.entries c.in_ok-held.held.now c.in_ok-held.ensures.found

pub returns-then-is_alive-clause-found : goal.returns-then-is_alive-clause-found
returns-then-is_alive-clause-found g c = rw (← c.at.view_is) (search rules)

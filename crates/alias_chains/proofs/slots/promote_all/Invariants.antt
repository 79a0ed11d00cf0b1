use Rattle.std.proofs.Common.{◌≡◌, drop}
use Rattle.alias_chains.specs.LookingUp.{promoted_all}
use Rattle.alias_chains.proofs.slots.promote_all.Given as goal

abbrev pub invariant-loop-slot : goal.invariant-loop-slot
invariant-loop-slot g l = record {
  capacity : l.cache.capacity ≡ l.fn.cache.capacity;
  left : promoted_all (drop l.slot-index l.slot-items) l.cache.entries ≡ promoted_all l.slots l.fn.cache.entries;
}

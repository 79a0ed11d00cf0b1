use Rattle.std.proofs.Common.{◌≡◌, ◌++◌, drop}
use Rattle.alias_chains.proofs.slots.Slots.copy_to.Given as goal

abbrev pub invariant-loop-slot : goal.invariant-loop-slot
invariant-loop-slot g l = l.slots.items ++ drop l.slot-index l.slot-items ≡ l.fn.slots.items ++ l.self

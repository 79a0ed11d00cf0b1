use Rattle.std.proofs.Common.{rules}
use Rattle.alias_chains.proofs.slots.promote_all.Goals as goal

pub loop-slot-init : goal.loop-slot-init
loop-slot-init g c = search rules

use Rattle.std.proofs.Common.{rules}
use Rattle.trust_rank.proofs.slot.SlotHash.hash.Goals as goal

pub overflow_add-from : goal.overflow_add-from
overflow_add-from g c = search rules

use Rattle.std.proofs.Common.{rules}
use Rattle.waiting_questions.proofs.keyed.KeyedWaiting.send_on.Goals as goal

pub invariant_of-self : goal.invariant_of-self
invariant_of-self g c = search rules

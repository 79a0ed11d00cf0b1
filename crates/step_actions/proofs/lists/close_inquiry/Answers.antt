use Rattle.std.proofs.Common.{rules}
use Rattle.step_actions.proofs.lists.close_inquiry.Goals as goal

pub returns-in-Some-clause-asks : goal.returns-in-Some-clause-asks
returns-in-Some-clause-asks g c = search rules

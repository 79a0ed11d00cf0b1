use Rattle.std.proofs.Common.{rules}
use Rattle.step_actions.proofs.lists.send_on.Goals as goal

pub returns-in-Some-clause-waiting : goal.returns-in-Some-clause-waiting
returns-in-Some-clause-waiting g c = search rules

use Rattle.std.proofs.Common.{rules}
use Rattle.step_actions.proofs.lists.end_closed.Goals as goal

pub returns-in-Some : goal.returns-in-Some
returns-in-Some g c = search rules

use Rattle.std.proofs.Common.{rules}
use Rattle.step_actions.proofs.lists.list_ask.Goals as goal

pub returns-clause-ok : goal.returns-clause-ok
returns-clause-ok g c = search rules

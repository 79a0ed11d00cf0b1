use Rattle.std.proofs.Common.{rules}
use Rattle.step_actions.proofs.decision.Decision.without_cache.Goals as goal

pub returns-clause-change : goal.returns-clause-change
returns-clause-change g c = search rules

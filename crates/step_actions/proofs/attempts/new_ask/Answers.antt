use Rattle.std.proofs.Common.{rules}
use Rattle.step_actions.proofs.attempts.new_ask.Goals as goal

pub returns : goal.returns
returns g c = search rules

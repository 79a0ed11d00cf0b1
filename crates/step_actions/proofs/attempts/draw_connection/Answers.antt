use Rattle.std.proofs.Common.{rules}
use Rattle.step_actions.proofs.attempts.draw_connection.Goals as goal

pub returns : goal.returns
returns c = search rules

use Rattle.std.proofs.Common.{rules}
use Rattle.step_actions.proofs.attempts.freed_port.Goals as goal

pub returns-in-Tcp : goal.returns-in-Tcp
returns-in-Tcp c = search rules

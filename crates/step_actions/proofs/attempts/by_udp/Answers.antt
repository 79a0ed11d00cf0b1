use Rattle.std.proofs.Common.{rules}
use Rattle.step_actions.proofs.attempts.by_udp.Goals as goal

pub returns-in-Some : goal.returns-in-Some
returns-in-Some c = search rules

use Rattle.std.proofs.Common.{rules}
use Rattle.waiting_questions.proofs.waiting.Waiting.send_on.Goals as goal

pub returns : goal.returns
returns g c = search rules

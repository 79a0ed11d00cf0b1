use Rattle.std.proofs.Common.{rules}
use Rattle.waiting_questions.proofs.waiting.Request.to_waiting.Goals as goal

pub returns : goal.returns
returns g c = search rules

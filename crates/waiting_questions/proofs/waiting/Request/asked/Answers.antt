use Rattle.std.proofs.Common.{rules}
use Rattle.waiting_questions.proofs.waiting.Request.asked.Goals as goal

pub returns-clause-asked : goal.returns-clause-asked
returns-clause-asked c = search rules

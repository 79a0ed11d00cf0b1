use Rattle.std.proofs.Common.{rules}
use Rattle.waiting_questions.proofs.waiting_questions.WaitingQuestions.push.Goals as goal

pub returns-clause-ok : goal.returns-clause-ok
returns-clause-ok g c = search rules

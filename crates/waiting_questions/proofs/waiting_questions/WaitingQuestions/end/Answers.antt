use Rattle.std.proofs.Common.{rules}
use Rattle.waiting_questions.proofs.waiting_questions.WaitingQuestions.end.Goals as goal

pub returns : goal.returns
returns g c = search rules

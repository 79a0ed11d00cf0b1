use Rattle.std.proofs.Common.{rules}
use Rattle.waiting_questions.proofs.waiting_questions.WaitingQuestions.reserve_one.Goals as goal

pub returns-clause-room : goal.returns-clause-room
returns-clause-room g c = search rules

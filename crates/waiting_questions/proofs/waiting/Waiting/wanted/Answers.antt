use Rattle.std.proofs.Common.{rules}
use Rattle.waiting_questions.proofs.waiting.Waiting.wanted.Goals as goal

pub returns-in-Some : goal.returns-in-Some
returns-in-Some g c = search rules

use Rattle.std.proofs.Common.{rules}
use Rattle.waiting_questions.proofs.waiting.Waiting.aliases.Goals as goal

pub returns-in-Some-clause-aliases : goal.returns-in-Some-clause-aliases
returns-in-Some-clause-aliases g c = search rules

use Rattle.std.proofs.Common.{rules}
use Rattle.step_texts.proofs.answers.is_alike.Goals as goal

pub returns-then-a-b : goal.returns-then-a-b
returns-then-a-b g c = search rules

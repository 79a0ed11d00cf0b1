use Rattle.std.proofs.Common.{rules}
use Rattle.step_texts.proofs.answers.Answers.new.Goals as goal

pub returns : goal.returns
returns g c = search rules

use Rattle.std.proofs.Common.{rules}
use Rattle.step_texts.proofs.refusals.refusal.Goals as goal

pub returns : goal.returns
returns g c = search rules

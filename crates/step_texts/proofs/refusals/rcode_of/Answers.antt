use Rattle.std.proofs.Common.{rules}
use Rattle.step_texts.proofs.refusals.rcode_of.Goals as goal

pub returns-in-NoRoute-clause-code : goal.returns-in-NoRoute-clause-code
returns-in-NoRoute-clause-code c = search rules

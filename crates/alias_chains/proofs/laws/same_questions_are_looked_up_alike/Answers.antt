use Rattle.alias_chains.proofs.Alike.{same_are_looked_up_alike}
use Rattle.alias_chains.proofs.laws.same_questions_are_looked_up_alike.Goals as goal

pub returns : goal.returns
returns c = same_are_looked_up_alike

use Rattle.std.proofs.Common.{rules}
use Rattle.replay_script.proofs.actions.number_of.Goals as goal

pub returns-in-NoRoute : goal.returns-in-NoRoute
returns-in-NoRoute c = search rules

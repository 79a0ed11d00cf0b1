use Rattle.std.proofs.Common.{rules}
use Rattle.replay_script.proofs.events.is_numeral.Goals as goal

pub returns-else-text-most : goal.returns-else-text-most
returns-else-text-most c = search rules

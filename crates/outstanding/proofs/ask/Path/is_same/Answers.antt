use Rattle.std.proofs.Common.{rules}
use Rattle.outstanding.proofs.ask.Path.is_same.Goals as goal

pub returns-in_default : goal.returns-in_default
returns-in_default c = search rules

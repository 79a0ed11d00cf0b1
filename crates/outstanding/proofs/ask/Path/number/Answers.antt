use Rattle.std.proofs.Common.{rules}
use Rattle.outstanding.proofs.ask.Path.number.Goals as goal

pub returns-in-Tcp : goal.returns-in-Tcp
returns-in-Tcp c = search rules

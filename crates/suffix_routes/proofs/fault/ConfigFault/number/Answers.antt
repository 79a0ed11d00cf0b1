use Rattle.std.proofs.Common.{rules}
use Rattle.suffix_routes.proofs.fault.ConfigFault.number.Goals as goal

pub returns-in-WrongKind : goal.returns-in-WrongKind
returns-in-WrongKind c = search rules

use Rattle.std.proofs.Common.{rules}
use Rattle.socket_wire.proofs.numbers.Numbers.give.Goals as goal

pub returns-clause-next : goal.returns-clause-next
returns-clause-next c = search rules

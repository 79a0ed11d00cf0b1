use Rattle.std.proofs.Common.{rules}
use Rattle.dns_message.proofs.names.shortcuts.resolve.Goals as goal

pub returns-clause-ends : goal.returns-clause-ends
returns-clause-ends c = search rules

use Rattle.std.proofs.Common.{rules}
use Rattle.dns_message.proofs.reading.view.MessageRef.header.Goals as goal

pub returns-clause-exact : goal.returns-clause-exact
returns-clause-exact c = search rules

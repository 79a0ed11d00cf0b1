use Rattle.std.proofs.Common.{rules}
use Rattle.dns_message.proofs.names.whole.read_name.Goals as goal

pub returns-clause-exact : goal.returns-clause-exact
returns-clause-exact g c = search rules

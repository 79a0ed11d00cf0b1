use Rattle.std.proofs.Common.{rules}
use Rattle.dns_message.proofs.reading.data.expand_name.Goals as goal

pub returns-in_err-used-clause-exact : goal.returns-in_err-used-clause-exact
returns-in_err-used-clause-exact g c = search rules

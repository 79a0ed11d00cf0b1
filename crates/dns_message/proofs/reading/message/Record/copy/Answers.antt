use Rattle.std.proofs.Common.{rules}
use Rattle.dns_message.proofs.reading.message.Record.copy.Goals as goal

pub returns : goal.returns
returns g c = search rules

use Rattle.std.proofs.Common.{rules}
use Rattle.dns_message.proofs.reading.message.Rdata.new.Goals as goal

pub returns : goal.returns
returns g c = search rules

use Rattle.std.proofs.Common.{rules}
use Rattle.dns_message.proofs.reading.message.Rdata.from_octets.Goals as goal

pub returns-clause-octets : goal.returns-clause-octets
returns-clause-octets g c = search rules

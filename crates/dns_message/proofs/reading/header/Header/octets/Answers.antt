use Rattle.std.proofs.Common.{arith}
use Rattle.dns_message.proofs.reading.header.Header.octets.Goals as goal

pub returns-clause-id : goal.returns-clause-id
returns-clause-id g = omega arith

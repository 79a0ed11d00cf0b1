use Rattle.std.proofs.Common.{rules}
use Rattle.dns_message.proofs.names.walk.part.Goals as goal

pub returns : goal.returns
returns c = search rules

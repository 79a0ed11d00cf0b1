use Rattle.std.proofs.Common.{rules}
use Rattle.dns_message.proofs.names.walk.Bound.data.Goals as goal

pub returns : goal.returns
returns c = search rules

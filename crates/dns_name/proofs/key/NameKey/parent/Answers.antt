use Rattle.std.proofs.Common.{rules}
use Rattle.dns_name.proofs.key.NameKey.parent.Goals as goal

pub returns : goal.returns
returns c = search rules

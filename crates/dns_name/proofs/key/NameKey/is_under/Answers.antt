use Rattle.std.proofs.Common.{rules}
use Rattle.dns_name.proofs.key.NameKey.is_under.Goals as goal

pub returns : goal.returns
returns g c = search rules

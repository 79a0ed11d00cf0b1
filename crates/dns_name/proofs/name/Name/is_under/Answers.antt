use Rattle.std.proofs.Common.{rules}
use Rattle.dns_name.proofs.name.Name.is_under.Goals as goal

pub returns : goal.returns
returns g c = search rules

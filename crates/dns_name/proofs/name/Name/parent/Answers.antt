use Rattle.std.proofs.Common.{rules}
use Rattle.dns_name.proofs.name.Name.parent.Goals as goal

pub returns-in_ok-from_octets-in-Some-clause-parent : goal.returns-in_ok-from_octets-in-Some-clause-parent
returns-in_ok-from_octets-in-Some-clause-parent g c = search rules

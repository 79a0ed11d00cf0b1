use Rattle.std.proofs.Common.{rules}
use Rattle.dns_name.proofs.KeyOf.{key_lower}
use Rattle.dns_name.proofs.key.NameKey.octets.Goals as goal

pub returns-clause-lower : goal.returns-clause-lower
returns-clause-lower c = rw (← c.self.view_is) (key_lower c.self.inside.octets c.self.inside.len c.self.invariant)

pub returns-clause-laid : goal.returns-clause-laid
returns-clause-laid c = search rules

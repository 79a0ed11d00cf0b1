use Rattle.dns_name.proofs.LabelLaws.{laid_size}
use Rattle.dns_name.proofs.name.Name.octets.Goals as goal

pub returns-clause-size : goal.returns-clause-size
returns-clause-size g c = rw (← c.self.view_is, c.as_slice.ensures) (laid_size c.self.inside.octets c.self.invariant)

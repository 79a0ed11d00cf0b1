use Rattle.dns_name.proofs.LabelLaws.{same_octets, octets_same}
use Rattle.dns_name.proofs.name.Name.same.Goals as goal

pub returns : goal.returns
returns g c = (
  λ yes. rw (c.octets.ensures.labels, c.octets-2.ensures.labels) at (same_octets _ _ c.octets.ensures.laid c.octets-2.ensures.laid (c.is_same_text.ensures.0 yes)),
  λ same. c.is_same_text.ensures.1 (octets_same _ _ c.octets.ensures.laid c.octets-2.ensures.laid (rw (← c.octets.ensures.labels, ← c.octets-2.ensures.labels) at same)),
)

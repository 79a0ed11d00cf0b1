use Rattle.std.proofs.Common.{◌∙◌}
use Rattle.std.proofs.Common.{eqb}
use Rattle.std.specs.Cmp.Lexicographic.{pointwise}
use Rattle.dns_name.specs.KeyLaws.{padded_back, size_back}
use Rattle.dns_name.proofs.KeyOf.{same_length, other_length}
use Rattle.dns_name.proofs.key.NameKeyPartialEq.eq.Goals as goal

pub returns-then-self-other : goal.returns-then-self-other
returns-then-self-other c =
    rw (← c.self.view_is, ← c.other.view_is, padded_back c.self.inside.octets c.self.inside.len c.self.invariant, size_back c.self.inside.octets c.self.inside.len c.self.invariant, padded_back c.other.inside.octets c.other.inside.len c.other.invariant, size_back c.other.inside.octets c.other.inside.len c.other.invariant)
    (rw c.from-len.ensures at c.eq.ensures ∙ same_length c.self.inside.octets c.other.inside.octets c.self.inside.len c.other.inside.len c.self.invariant c.other.invariant c.self.told c.other.told c.if-self-other.true)

pub returns-else-self-other : goal.returns-else-self-other
returns-else-self-other c =
    rw (← c.self.view_is, ← c.other.view_is, padded_back c.self.inside.octets c.self.inside.len c.self.invariant, size_back c.self.inside.octets c.self.inside.len c.self.invariant, padded_back c.other.inside.octets c.other.inside.len c.other.invariant, size_back c.other.inside.octets c.other.inside.len c.other.invariant)
    (other_length (pointwise eqb c.self.inside.octets c.other.inside.octets) c.self.inside.len c.other.inside.len c.if-self-other.false)

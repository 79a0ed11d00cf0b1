use Rattle.std.proofs.Common.{ℕ}
use Rattle.std.proofs.lemmas.List.{take-replicate}
use Rattle.dns_name.proofs.KeyOf.{became, is_key, key_labels}
use Rattle.dns_name.proofs.key.NameKey.set_octets.Goals as goal

pub invariant_of-self : goal.invariant_of-self
invariant_of-self c =
    rw (c.put_lower.ensures, c.copy_from_slice.ensures.after, c.from-before.ensures, take-replicate {X = ℕ} c.self.inside.len 255 0 c.self.invariant.short, became c.self.inside.octets c.self.inside.len c.args.octets.now c.self.invariant c.self.told)
    (is_key c.args.octets.now c.requires)

pub returns : goal.returns
returns c =
    rw (c.put_lower.ensures, c.copy_from_slice.ensures.after, c.from-before.ensures, take-replicate {X = ℕ} c.self.inside.len 255 0 c.self.invariant.short, became c.self.inside.octets c.self.inside.len c.args.octets.now c.self.invariant c.self.told)
    (key_labels c.args.octets.now c.requires)

use Rattle.std.proofs.Common.{arith}
use Rattle.dns_name.proofs.KeyOf.{lower_more}
use Rattle.dns_name.proofs.key.put_lower.Goals as goal

pub loop-i-preserved : goal.loop-i-preserved
loop-i-preserved c = rw (c.loop-i.invariant, c.to_ascii_lowercase.ensures.value) (lower_more c.args.octets.now c.args.all.now c.loop-i.i c.loop-i-test.true (omega (arith, c.requires, c.told-all)))

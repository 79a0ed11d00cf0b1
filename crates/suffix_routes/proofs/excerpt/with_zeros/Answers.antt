use Rattle.suffix_routes.proofs.ExcerptOf.{copy_more}
use Rattle.suffix_routes.proofs.excerpt.with_zeros.Goals as goal

pub loop-place-preserved : goal.loop-place-preserved
loop-place-preserved c = rw c.loop-place.invariant (copy_more c.args.octets.now c.loop-place.place c.loop-place-test.true c.requires)

use Rattle.suffix_routes.proofs.ExcerptOf.{is_excerpt, front_is}
use Rattle.suffix_routes.proofs.excerpt.kept.Goals as goal

pub invariant_of-result : goal.invariant_of-result
invariant_of-result c = rw c.with_zeros.ensures (is_excerpt c.args.octets.now c.requires)

pub returns : goal.returns
returns c = rw c.with_zeros.ensures (front_is c.args.octets.now)

use Rattle.std.proofs.Common.{List, sym, subst, rules}
use Rattle.outstanding.specs.Values.{Ask}
use Rattle.outstanding.specs.Lists.{AreListed}
use Rattle.outstanding.specs.Tables.{asks_of}
use Rattle.outstanding.proofs.Listed.{left}
use Rattle.outstanding.proofs.inquiries.Inquiries.end.Goals as goal

pub invariant_of-self : goal.invariant_of-self
invariant_of-self g c = (
  c.take.ensures.indexed,
  subst (λ (xs : List Ask). AreListed (record { capacity = c.self.inside.capacity; asks = xs })) (sym c.take.ensures.list)
      (left c.args.path c.self.inside.capacity (asks_of c.self.inside.table) c.self.invariant.1),
)

pub returns-clause-ended : goal.returns-clause-ended
returns-clause-ended g c = search rules

pub returns-clause-listed : goal.returns-clause-listed
returns-clause-listed g c = (invariant_of-self g c).1

use Rattle.std.proofs.Common.{sym, ◌∙◌}
use Rattle.trust_rank.proofs.PieceLaws.{kind_of_set}
use Rattle.trust_rank.proofs.sets.set_among.Goals as goal

pub set_with-requires-clause-kind : goal.set_with-requires-clause-kind
set_with-requires-clause-kind g c = kind_of_set c.args.key.now c.in-Some.first.now (sym c.includes.ensures ∙ c.if-includes.true)

use Rattle.std.proofs.Common.{true}
use Rattle.std.specs.Prelude.{◌-◌}
use Rattle.trust_rank.specs.Walks.{most_aliases, walk_from}
use Rattle.trust_rank.proofs.WalkLaws.{GoesOn}
use Rattle.trust_rank.proofs.walking.walk_from.Given as goal

abbrev pub invariant-loop : goal.invariant-loop
invariant-loop g l = GoesOn l.reply l.pieces (most_aliases - l.counter) l.is_first l.name (walk_from l.reply most_aliases true l.reply.question.name)

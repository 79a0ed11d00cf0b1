use Rattle.std.proofs.Common.{suc, ◌-◌, length}
use Rattle.plain_values.specs.Borrowed.{lent}
use Rattle.trust_rank.specs.Walks.{most_aliases}
use Rattle.negative_cache.specs.Values.{alias}
use Rattle.alias_chains.specs.Looked.{look_up_from, with_used}
use Rattle.alias_chains.proofs.Following.{IsOnWay}
use Rattle.alias_chains.proofs.looking.follow.Given as goal

abbrev pub invariant-loop-target : goal.invariant-loop-target
invariant-loop-target g l =
    IsOnWay l.at.config.routes l.at.moment l.at.cache.entries (lent l.trail.held.items) l.trail.used.items l.trail.wanted (alias l.alias)
    (with_used l.fn.trail.used.items (look_up_from l.at.config.routes l.at.moment l.at.cache.entries
    (most_aliases - length (lent l.fn.trail.held.items)) (lent l.fn.trail.held.items) l.fn.trail.wanted (alias l.fn.first)))

abbrev pub decreases-loop-target : goal.decreases-loop-target
decreases-loop-target g l = suc most_aliases - length (lent l.trail.held.items)

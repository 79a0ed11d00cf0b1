use Rattle.std.proofs.Common.{◌≡◌, ◌++◌}
use Rattle.std.specs.Prelude.{map}
use Rattle.alias_chains.specs.Offering.{held_at}
use Rattle.alias_chains.proofs.offers.push_held.Given as goal

abbrev pub invariant-loop-piece : goal.invariant-loop-piece
invariant-loop-piece g l = l.held.items ++ map (held_at l.moment) l.piece-iterator.rest.items ≡ l.initial.held.items ++ map (held_at l.moment) l.fn.pieces

use Rattle.std.proofs.Common.{◌≡◌, take}
use Rattle.plain_values.specs.Borrowed.{lent}
use Rattle.alias_chains.proofs.chain.copies.Given as goal

abbrev pub invariant-loop-held : goal.invariant-loop-held
invariant-loop-held g l = l.copies.items ≡ lent (take l.held-index l.pieces)

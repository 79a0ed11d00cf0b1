use Rattle.std.proofs.Common.{◌≡◌, ◌++◌, take}
use Rattle.plain_values.specs.Borrowed.{lent}
use Rattle.reply_decisions.proofs.fate.put_all.Given as goal

abbrev pub invariant-loop-held : goal.invariant-loop-held
invariant-loop-held g l = lent l.chain.items ≡ lent l.fn.chain.items ++ take l.held-index l.pieces

use Rattle.std.proofs.Common.{◌≡◌, take}
use Rattle.plain_values.specs.Borrowed.{lent}
use Rattle.step_texts.proofs.answers.chain_after.Given as goal

abbrev pub invariant-loop-held : goal.invariant-loop-held
invariant-loop-held g l = lent l.whole.items ≡ take l.held-index l.aliases

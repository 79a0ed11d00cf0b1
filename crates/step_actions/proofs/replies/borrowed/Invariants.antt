use Rattle.std.proofs.Common.{◌≡◌, take}
use Rattle.plain_values.specs.Borrowed.{lent}
use Rattle.step_actions.proofs.replies.borrowed.Given as goal

abbrev pub invariant-loop-entry : goal.invariant-loop-entry
invariant-loop-entry g l = lent l.refs.items ≡ take l.entry-index l.held

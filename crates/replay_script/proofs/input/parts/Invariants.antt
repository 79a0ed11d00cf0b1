use Rattle.std.proofs.Common.{ℕ, List, length}
use Rattle.replay_script.specs.Parts.{FollowsLines}
use Rattle.replay_script.proofs.input.parts.Given as goal

abbrev pub invariant-loop-line : goal.invariant-loop-line
invariant-loop-line l = (lines : List (List ℕ)) × FollowsLines l.script l.rest lines

abbrev pub decreases-loop-line : goal.decreases-loop-line
decreases-loop-line l = length l.rest

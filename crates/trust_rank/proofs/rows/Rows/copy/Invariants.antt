use Rattle.std.proofs.Common.{◌≡◌, take}
use Rattle.trust_rank.proofs.rows.Rows.copy.Given as goal

abbrev pub invariant-loop-row : goal.invariant-loop-row
invariant-loop-row g l = l.copy ≡ take l.row-index l.rows

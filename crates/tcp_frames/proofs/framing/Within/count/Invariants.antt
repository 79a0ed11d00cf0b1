use Rattle.std.proofs.Common.{ℕ, ◌+◌, ◌≤◌, List, length}
use Rattle.tcp_frames.specs.Counting.{Stands}
use Rattle.tcp_frames.proofs.Counting.{GoesOn}
use Rattle.tcp_frames.proofs.framing.Within.count.Given as goal

abbrev pub invariant-loop-rest : goal.invariant-loop-rest
invariant-loop-rest l = record {
  fits : l.ended + length l.rest ≤ length l.piece;
  counts : (rest : List ℕ) → Stands l.fn.self rest → GoesOn rest l.piece l.rest l.ended l.self;
}

abbrev pub decreases-loop-rest : goal.decreases-loop-rest
decreases-loop-rest l = length l.rest

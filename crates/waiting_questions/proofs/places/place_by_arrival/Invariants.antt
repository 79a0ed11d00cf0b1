use Rattle.std.proofs.Common.{◌-◌, ◌≡◌, ℕ, ◌+◌, ◌≤◌, Bool, filter}
use Rattle.std.specs.List.{between}
use Rattle.waiting_questions.specs.Indexes.{keys_of}
use Rattle.waiting_questions.specs.Settling.{earlier}
use Rattle.waiting_questions.proofs.places.place_by_arrival.Given as goal

abbrev pub invariant-loop-low : goal.invariant-loop-low
invariant-loop-low g l =
    (l.start ≤ l.low) × (l.low ≤ l.high) × (l.high ≤ l.end)
    × ((p : ℕ → Bool) → filter p l.fn.by_arrival.keys ≡ between l.start l.end (keys_of l.fn.keys.items) → (l.low ≤ l.start + earlier p l.fn.by_arrival.keys l.arrival_rank) × (l.start + earlier p l.fn.by_arrival.keys l.arrival_rank ≤ l.high))

abbrev pub decreases-loop-low : goal.decreases-loop-low
decreases-loop-low g l = l.high - l.low

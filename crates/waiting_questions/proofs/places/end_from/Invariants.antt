use Rattle.std.proofs.Common.{◌≡◌, ◌<◌, ℕ, is_le, slice_index, true}
use Rattle.slab.specs.Slab.{get}
use Rattle.waiting_questions.specs.Indexes.{compared, keys_of, to_question}
use Rattle.waiting_questions.proofs.places.end_from.Given as goal

abbrev pub invariant-loop-place : goal.invariant-loop-place
invariant-loop-place g l = (k : ℕ) → k < l.place → is_le (compared (to_question l.fn.question) (get l.fn.waiting (slice_index (keys_of l.fn.keys.items) k))) ≡ true

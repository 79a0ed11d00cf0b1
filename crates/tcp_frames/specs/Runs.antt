-- Runs of a reader: any feeds and takes, in order, each with its answer.
use Rattle.std.specs.Prelude.{◌≡◌, ℕ, List, [], ◌∷◌, ◌++◌, Option, Some, Result, Ok}
use Rattle.std.specs.declared.alloc.AllocError.{AllocError}
use Rattle.tcp_frames.specs.Frames.{Feeds, Takes}

-- a call of a reader, with its answer
pub data Call : Type 0 where
  fed : List ℕ → Result (Unit {0}) AllocError → Call
  took : Result (Option (List ℕ)) AllocError → Call

-- The calls lead from the octets before to the octets after.
abbrev pub Runs : List ℕ → List Call → List ℕ → Type 0
Runs before [] after = after ≡ before
Runs before (fed piece answer ∷ calls) after = (between : List ℕ)
    × (Feeds before piece answer between × Runs between calls after)
Runs before (took answer ∷ calls) after = (between : List ℕ) × (Takes before answer between × Runs between calls after)

-- all fed octets; a refused feed feeds none
abbrev pub fed_in : List Call → List ℕ
fed_in [] = []
fed_in (fed piece (Ok _) ∷ calls) = piece ++ fed_in calls
fed_in (_ ∷ calls) = fed_in calls

-- all taken messages, in order
abbrev pub taken_in : List Call → List (List ℕ)
taken_in [] = []
taken_in (took (Ok (Some message)) ∷ calls) = message ∷ taken_in calls
taken_in (_ ∷ calls) = taken_in calls

-- Statements about the frames of a stream.
use Rattle.std.specs.Prelude.{◌≡◌, ℕ, ◌<◌, List, [], ◌++◌}
use Rattle.std.specs.List.{flat_map, AllByRecursion}
use Rattle.tcp_frames.specs.Frames.{framed, frames_of, unfinished_of, IsCut, IsUnfinished, Leads}
use Rattle.tcp_frames.specs.Runs.{Call, Runs, fed_in, taken_in}

-- The taken messages with their lengths, followed by the octets left, are the octets before and all
-- fed octets.
abbrev pub NothingIsLost : Type 0
NothingIsLost =
    (before : List ℕ) (calls : List Call) (after : List ℕ) → Runs before calls after
    → before ++ fed_in calls ≡ flat_map framed (taken_in calls) ++ after

-- The taken messages, followed by the frames left, are the frames of the octets before and all fed
-- octets.
pub record KeepsFrames (before : List ℕ) (calls : List Call) (after : List ℕ) : Type 0 where
  pub frames : frames_of (before ++ fed_in calls) ≡ taken_in calls ++ frames_of after
  pub unfinished : unfinished_of (before ++ fed_in calls) ≡ unfinished_of after

-- a reader gives the frames of all fed octets, however cut
abbrev pub CutDoesNotMatter : Type 0
CutDoesNotMatter = (before : List ℕ) (calls : List Call) (after : List ℕ) → Runs before calls after
    → KeepsFrames before calls after

-- Once a new reader has no whole frame left, all frames of the fed octets have been taken, and the
-- octets left follow them.
abbrev pub AllFramesAreTaken : Type 0
AllFramesAreTaken =
    (calls : List Call) (after : List ℕ) → Runs [] calls after → IsUnfinished after
    → (taken_in calls ≡ frames_of (fed_in calls)) × (after ≡ unfinished_of (fed_in calls))

-- a stream is cut into frames in a single way
abbrev pub FramesAreUnique : Type 0
FramesAreUnique =
    (stream : List ℕ) (messages others : List (List ℕ)) (rest left : List ℕ)
    → IsCut messages rest stream → IsCut others left stream → (messages ≡ others) × (rest ≡ left)

-- the frames of a stream, and the unfinished rest, are the stream
abbrev pub FramesAreFound : Type 0
FramesAreFound = (stream : List ℕ) → AllByRecursion (λ octet. octet < 256) stream
    → IsCut (frames_of stream) (unfinished_of stream) stream

-- An unfinished stream begins with no frame.
abbrev pub UnfinishedHasNoFrame : Type 0
UnfinishedHasNoFrame = (stream : List ℕ) → IsUnfinished stream → (message rest : List ℕ) → ¬ (Leads message rest stream)

-- With a further piece the frames go on after the frames before, beginning with the unfinished
-- rest.
pub record Continues (before piece : List ℕ) : Type 0 where
  pub frames : frames_of (before ++ piece) ≡ frames_of before ++ frames_of (unfinished_of before ++ piece)
  pub unfinished : unfinished_of (before ++ piece) ≡ unfinished_of (unfinished_of before ++ piece)

-- the frames after a further piece are the frames before, and those completed by the piece
abbrev pub PiecesContinue : Type 0
PiecesContinue = (before piece : List ℕ) → Continues before piece

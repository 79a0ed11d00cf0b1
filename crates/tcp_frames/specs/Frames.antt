-- Messages in a TCP stream (RFC 1035 4.2.2): two octets of length, high octet first, then the
-- message.
use Rattle.std.specs.Prelude.{◌≡◌, ℕ, suc, ◌+◌, ◌*◌, ◌/◌, ◌%◌, ◌<◌, ◌≤◌, List, [], ◌∷◌, ◌++◌, length, take, drop}
use Rattle.std.specs.Prelude.{Option, Some, None, Result, Ok, Err, OnOk, OnErr, nat_le, if◌then◌else◌}
use Rattle.std.specs.List.{flat_map, AllByRecursion}
use Rattle.std.specs.declared.alloc.AllocError.{AllocError}
use Rattle.tcp_frames.specs.declared.fault.FrameFault.{FrameFault}
use Rattle.tcp_frames.specs.declared.fault.FrameFault.TheVariants.{Memory, TooLong}

-- a message after its length
abbrev pub framed : List ℕ → List ℕ
framed message = length message / 256 ∷ length message % 256 ∷ message

-- The answer of a call of `frame`: the frame of a message whose length two octets can say, unless
-- memory ran out.
abbrev pub Frames : List ℕ → Result (List ℕ) FrameFault → Type 0
Frames message (Ok octets) = (length message ≤ 65535) × (octets ≡ framed message)
Frames message (Err Memory) = length message ≤ 65535
Frames message (Err TooLong) = 65535 < length message

-- The stream begins with the frame of the message, and the rest follows it.
pub record Leads (message rest stream : List ℕ) : Type 0 where
  pub short : length message ≤ 65535
  pub octets : stream ≡ framed message ++ rest

-- The stream ends within its first frame: in the length, or before the end of the message.
abbrev pub IsUnfinished : List ℕ → Type 0
IsUnfinished [] = Unit {0}
IsUnfinished (high ∷ []) = Unit {0}
IsUnfinished (high ∷ low ∷ more) = length more < 256 * high + low

-- The effect of a feed: on `Err` none.
pub record Feeds (before piece : List ℕ) (answer : Result (Unit {0}) AllocError) (after : List ℕ) : Type 0 where
  pub ok : OnOk answer (after ≡ before ++ piece)
  pub err : OnErr answer (after ≡ before)

-- The beginning of the stream: a first message, or none; on `Err` a first message, not copied.
abbrev pub Finds : List ℕ → Result (Option (List ℕ)) AllocError → Type 0
Finds stream (Ok (Some message)) = Leads message (drop (2 + length message) stream) stream
Finds stream (Ok None) = IsUnfinished stream
Finds stream (Err _) = (message : List ℕ) × ((rest : List ℕ) × Leads message rest stream)

-- The effect of a take: the first message goes out with its length; otherwise nothing is taken.
abbrev pub Takes : List ℕ → Result (Option (List ℕ)) AllocError → List ℕ → Type 0
Takes before (Ok (Some message)) after = Leads message after before
Takes before (Ok None) after = (after ≡ before) × IsUnfinished before
Takes before (Err _) after = (after ≡ before) × ((message : List ℕ) × ((rest : List ℕ) × Leads message rest before))

-- the messages whose frames are whole at the beginning of the stream, in order; `most` is at least
-- their number
unfoldable pub frames_within : ℕ → List ℕ → List (List ℕ)
frames_within (suc most) (high ∷ low ∷ more) =
    if nat_le (256 * high + low) (length more) then take (256 * high + low) more
    ∷ frames_within most (drop (256 * high + low) more) else []
frames_within most stream = []

-- the messages of a stream, in order: no frame is shorter than an octet
unfoldable pub frames_of : List ℕ → List (List ℕ)
frames_of stream = frames_within (length stream) stream

-- the octets after the last whole frame
unfoldable pub unfinished_of : List ℕ → List ℕ
unfinished_of stream = drop (length (flat_map framed (frames_of stream))) stream

-- The stream is the frames of these messages, in order, and an unfinished rest.
pub record IsCut (messages : List (List ℕ)) (rest stream : List ℕ) : Type 0 where
  pub short : AllByRecursion (λ message. length message ≤ 65535) messages
  pub octets : stream ≡ flat_map framed messages ++ rest
  pub unfinished : IsUnfinished rest

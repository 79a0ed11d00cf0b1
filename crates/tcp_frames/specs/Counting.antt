-- A stream's position within its frames, without the octets of its unfinished message.
use Rattle.std.specs.Prelude.{◌≡◌, ℕ, ◌+◌, ◌*◌, List, [], ◌∷◌, ◌++◌, length}
use Rattle.std.specs.Int.NonZero.{non_zero_u16_get}
use Rattle.tcp_frames.specs.Frames.{frames_of, unfinished_of}
use Rattle.tcp_frames.specs.declared.framing.Within.{Within}
use Rattle.tcp_frames.specs.declared.framing.Within.TheVariants.{Nothing, Length, Message}

-- These octets are a length, and its message without the last `left` octets.
abbrev pub Misses : ℕ → List ℕ → Type 0
Misses left (high ∷ low ∷ more) = length more + left ≡ 256 * high + low
Misses left _ = ⊥

-- The position of a stream whose last whole frame is followed by these octets.
abbrev pub Stands : Within → List ℕ → Type 0
Stands Nothing rest = rest ≡ []
Stands (Length high) rest = rest ≡ high ∷ []
Stands (Message left) rest = Misses (non_zero_u16_get left) rest

-- With `count` ends of frames in these octets, the stream moves from the first position to the
-- second.
pub record Counts (rest octets : List ℕ) (count : ℕ) (after : Within) : Type 0 where
  pub frames : length (frames_of (rest ++ octets)) ≡ count
  pub stands : Stands after (unfinished_of (rest ++ octets))

-- A stream whose frame misses `left` octets is at this place.
abbrev pub Leaves : ℕ → Within → Type 0
Leaves left Nothing = left ≡ 0
Leaves left (Length _) = ⊥
Leaves left (Message more) = non_zero_u16_get more ≡ left

-- the number of frames that end exactly at this position
abbrev pub ended : Within → ℕ
ended Nothing = 1
ended (Length _) = 0
ended (Message _) = 0

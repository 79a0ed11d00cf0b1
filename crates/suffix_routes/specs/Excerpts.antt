-- The first octets of a text, for the fault of the text.
use Rattle.std.specs.Prelude.{◌≡◌, ℕ, ◌-◌, ◌≤◌, List, ◌++◌, length, take, replicate}

-- the first 64 octets
abbrev pub excerpt : List ℕ → List ℕ
excerpt text = take 64 text

-- octets with zeros after them, 64 in all
abbrev pub padded : List ℕ → List ℕ
padded octets = octets ++ replicate (64 - length octets) 0

-- an excerpt in memory: its octets, then zeros, and their number
unfoldable pub kept_octets : List ℕ → List ℕ
kept_octets text = padded text

-- the number of the text's octets in an excerpt
unfoldable pub kept_len : List ℕ → ℕ
kept_len text = length text

-- 64 octets: at most 64 of a text, and zeros after them
pub record IsExcerpt (octets : List ℕ) (len : ℕ) : Type 0 where
  pub short : len ≤ 64
  pub zeros : padded (take len octets) ≡ octets

-- Numbers at a place of a message, the high octet first: RFC 1035 2.3.2.
use Rattle.std.specs.Prelude.{ℕ, ◌+◌, ◌*◌, List, slice_index}

-- the number of 16 bits at a place
abbrev pub number16 : List ℕ → ℕ → ℕ
number16 bytes o = slice_index bytes o * 256 + slice_index bytes (o + 1)

-- the number of 32 bits at a place
abbrev pub number32 : List ℕ → ℕ → ℕ
number32 bytes o = number16 bytes o * 65536 + number16 bytes (o + 2)

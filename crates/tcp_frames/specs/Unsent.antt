-- Octets for a slow stream, and the taken octets still in memory.
use Rattle.std.specs.Prelude.{ℕ, ◌+◌, List, ◌++◌, length, drop, if◌then◌else◌, nat_le, nat_lt}

-- The octets left, in order, and the count of taken octets still in memory before them.
pub record Keeping : Type 0 where
  pub left : List ℕ
  pub taken : ℕ

-- with octets put last: at most as many taken octets are kept as were left
abbrev pub pushed : List ℕ → Keeping → Keeping
pushed more before = record {
  left = before.left ++ more;
  taken = if nat_le before.taken (length before.left) then before.taken else 0;
}

-- after the stream took `count` octets: once all are taken, none are kept
abbrev pub sent : ℕ → Keeping → Keeping
sent count before = record {
  left = drop count before.left;
  taken = if nat_lt count (length before.left) then before.taken + count else 0;
}

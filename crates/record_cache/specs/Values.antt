-- A cache and its entries in contracts.
use Rattle.std.specs.Prelude.{ℕ, List}
use Rattle.trust_rank.specs.Values.{Piece}

-- a piece, and the moment of its acceptance (ms)
pub record Held : Type 0 where
  pub piece : Piece
  pub accepted : ℕ

-- the entries, the most recently used first, and how many there may be
pub record Cache : Type 0 where
  pub capacity : ℕ
  pub entries : List Held

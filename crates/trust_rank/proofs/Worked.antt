-- Pieces that can be written, and that cannot: no code computes this.
use Rattle.std.proofs.Common.{◌≡◌, ℕ, ◌<◌, List, [], ◌∷◌, Some, arith}
use Rattle.trust_rank.specs.Values.{rows, Piece}
use Rattle.trust_rank.specs.Writable.{IsWritable}

abbrev a : List (List ℕ)
a = (97 ∷ []) ∷ (101 ∷ []) ∷ []

-- addresses of a.e, of this class
abbrev of_class : ℕ → Piece
of_class class = record { owner = a; slot = record { key = a; class = class; kind = Some 1 }; body = rows ((192 ∷ 0 ∷ 2 ∷ 5 ∷ []) ∷ []); lifetime = 300; rank = 3; route = 0 }

-- the greatest class of 16 bits can, and no greater one
greatest_class : IsWritable (of_class 65535)
greatest_class = record {
  owner = record { each = (record { some = omega arith; short = omega arith }, (record { some = omega arith; short = omega arith }, tt)); short = omega arith };
  class = omega arith;
  kind = omega arith;
  body = tt;
}

too_great_class : IsWritable (of_class 65536) → ⊥
too_great_class h = let fits : 65536 < 65536 = h.class in omega (arith, fits)

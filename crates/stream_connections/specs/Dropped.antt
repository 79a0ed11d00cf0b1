-- The values that were dropped, in order.
use Rattle.std.specs.Prelude.{List, [], ◌∷◌, ◌++◌, Option, Some, None, map}

-- the first of each pair
abbrev pub firsts : {X : Type 0} → List (X × Unit {0}) → List X
firsts pairs = map (λ pair. pair.0) pairs

-- with this value after those dropped before, if any
abbrev pub with_dropped : {X : Type 0} → Option X → List X → List X
with_dropped (Some value) before = before ++ value ∷ []
with_dropped None before = before

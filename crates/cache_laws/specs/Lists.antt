-- Places in a list.
use Rattle.std.specs.Prelude.{◌≡◌, ◌⊎◌, List, [], ◌∷◌}

-- the list has x
abbrev pub IsOneOf : {X : Type 0} → X → List X → Type 0
IsOneOf x [] = ⊥
IsOneOf x (y ∷ ys) = (x ≡ y) ⊎ IsOneOf x ys

-- no element is there twice
abbrev pub NoneTwice : {X : Type 0} → List X → Type 0
NoneTwice [] = Unit {0}
NoneTwice (x ∷ xs) = (IsOneOf x xs → ⊥) × NoneTwice xs

-- the first of two comes before the second
abbrev pub IsBefore : {X : Type 0} → X → X → List X → Type 0
IsBefore x y [] = ⊥
IsBefore x y (z ∷ zs) = ((x ≡ z) × IsOneOf y zs) ⊎ IsBefore x y zs

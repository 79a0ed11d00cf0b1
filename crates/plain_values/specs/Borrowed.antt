-- Lists of borrowed things.
use Rattle.std.specs.Prelude.{map, List}
use denote.Ref.{Bor}

-- the borrowed values themselves
abbrev pub lent : {T : Type 0} → List (Bor T) → List T
lent refs = map (λ x. x.now) refs

-- The lines printed after checking and serving.
use Rattle.std.specs.Prelude.{ℕ, List, ◌++◌, codes}
use Rattle.std.specs.Fmt.{decimal}

-- ok R, the number in decimal digits
abbrev pub checked_text : ℕ → List ℕ
checked_text routes = codes "ok " ++ decimal routes

-- turns T lost L, each number in decimal digits
abbrev pub counted_text : ℕ → ℕ → List ℕ
counted_text turns lost = codes "turns " ++ decimal turns ++ codes " lost " ++ decimal lost

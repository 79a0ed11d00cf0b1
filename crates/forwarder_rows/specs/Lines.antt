-- Lines of texts.
use Rattle.std.specs.Prelude.{ℕ, ◌+◌, List, [], ◌∷◌, ◌==◌, if◌then◌else◌}

-- the number of line feeds before the first difference of two texts
abbrev pub line_feeds_before : List ℕ → List ℕ → ℕ
line_feeds_before [] given = 0
line_feeds_before (a ∷ wanted) [] = 0
line_feeds_before (a ∷ wanted) (b ∷ given) =
    if a == b then (if a == 10 then line_feeds_before wanted given + 1 else line_feeds_before wanted given) else 0

-- The random words of a script.
use Rattle.std.specs.Prelude.{ℕ, ◌+◌, ◌*◌, List, [], ◌∷◌}

-- the word of a script's event line at a place from 0 to 7
abbrev pub word_at : ℕ → ℕ → ℕ
word_at line place = (8 * line + place) * 65537

-- the eight words of an event line
abbrev pub words_of : ℕ → List ℕ
words_of line =
    word_at line 0 ∷ word_at line 1 ∷ word_at line 2 ∷ word_at line 3 ∷ word_at line 4 ∷ word_at line 5 ∷ word_at line 6
    ∷ word_at line 7 ∷ []

-- How event lines follow from a text.
use Rattle.std.proofs.Common.{◌≡◌, ◌++◌, ◌∷◌, [], ℕ, ◌<◌, List, length, Bool, true, false, refl, ap, arith}
use Rattle.std.specs.Prelude.{◌||◌, cond}
use Rattle.std.specs.List.{list_any}
use Rattle.replay_script.specs.Parts.{is_feed, ended}
use Rattle.replay_script.specs.Runs.{lines_of, begun}

neither : (a b : Bool) → (a || b) ≡ false → (a ≡ false) × (b ≡ false)
neither true b e = absurd (cc)
neither false b e = (refl, e)

-- A line with a line feed is the first line.
pub line_first : (line after : List ℕ) → list_any is_feed line ≡ false → lines_of (ended line ++ after) ≡ line ∷ lines_of after
line_first [] after e = refl
line_first (octet ∷ line) after e =
    let parts = neither (is_feed octet) (list_any is_feed line) e in
    rw (parts.0, line_first line after parts.1) refl

-- A text without a line feed is a single line.
pub line_alone : (text : List ℕ) → 0 < length text → list_any is_feed text ≡ false → lines_of text ≡ text ∷ []
line_alone [] some e = absurd (omega arith)
line_alone (octet ∷ []) some e =
    let parts = neither (is_feed octet) false e in
    rw (parts.0) refl
line_alone (octet ∷ next ∷ text) some e =
    let parts = neither (is_feed octet) (list_any is_feed (next ∷ text)) e in
    let more : lines_of (next ∷ text) ≡ (next ∷ text) ∷ [] = line_alone (next ∷ text) (omega arith) parts.1 in
    rw (parts.0) (ap (λ (ls : List (List ℕ)). begun octet ls) more)

begun_some : (octet : ℕ) (lines : List (List ℕ)) → (line : List ℕ) × ((more : List (List ℕ)) × (begun octet lines ≡ line ∷ more))
begun_some octet [] = (octet ∷ [], ([], refl))
begun_some octet (line ∷ lines) = (octet ∷ line, (lines, refl))

choice_some : (b : Bool) (octet : ℕ) (lines : List (List ℕ)) → (line : List ℕ)
    × ((more : List (List ℕ)) × (cond b ([] ∷ lines) (begun octet lines) ≡ line ∷ more))
choice_some true octet lines = ([], (lines, refl))
choice_some false octet lines = begun_some octet lines

-- A text with octets has a line.
pub has_line : (text : List ℕ) → 0 < length text → (line : List ℕ) × ((more : List (List ℕ)) × (lines_of text ≡ line ∷ more))
has_line [] some = absurd (omega arith)
has_line (octet ∷ text) some = choice_some (is_feed octet) octet (lines_of text)

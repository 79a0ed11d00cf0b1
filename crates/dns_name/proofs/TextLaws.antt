-- The parts of a text between its dots.
use Rattle.std.proofs.Common.{◌≡◌, ℕ, ◌+◌, ◌-◌, ◌<◌, ◌≤◌, List, [], ◌∷◌, length, take, drop, Some, None, refl, sym, ap, ◌∙◌, arith, inl, inr}
use Rattle.std.specs.Prelude.{position}
use Rattle.std.specs.List.{position_or_len, onto_first}
use Rattle.std.proofs.lemmas.Bool.{cases_lt, cases_Bool, lt-ltb, le-ltb}
use Rattle.std.proofs.lemmas.List.{take_all, length-drop}
use Rattle.std.proofs.lemmas.List.Splits.{slice_split_first}
use Rattle.dns_name.specs.Text.{is_dot, parts_of}

no_dot : (text : List ℕ) → length text ≤ position_or_len is_dot text → parts_of text ≡ text ∷ []
no_dot [] le = refl
no_dot (x ∷ xs) le =
    elim (cases_Bool (is_dot x)) [
      | inl dot ↦ absurd (omega (arith, rw dot at le))
      | inr other ↦ rw other (ap (onto_first x) (no_dot xs (omega (arith, rw other at le))))
    ]

rest_of : (text : List ℕ) (n : ℕ) → take (length text - n) (drop n text) ≡ drop n text
rest_of text n = take_all (length text - n) (drop n text) (omega (arith, length-drop n text))

pub dot_found : (text : List ℕ) (at : ℕ) → position is_dot text ≡ Some at → (at < length text) × (parts_of text ≡ take at text ∷ parts_of (take (length text - (at + 1)) (drop (at + 1) text)))
dot_found text at found =
    elim (cases_lt (position_or_len is_dot text) (length text)) [
      | inl lt ↦
          let here : Some (position_or_len is_dot text) ≡ Some at = rw (lt-ltb _ _ lt) at found in
          let same : position_or_len is_dot text ≡ at = cc in
          rw (← same) (lt, slice_split_first is_dot text 0 lt ∙ ap (λ (rest : List ℕ). take (position_or_len is_dot text) text ∷ parts_of rest) (sym (rest_of text (position_or_len is_dot text + 1))))
      | inr le ↦ absurd (let none : None ≡ Some at = rw (le-ltb _ _ le) at found in cc)
    ]

pub dot_missing : (text : List ℕ) → position is_dot text ≡ None → parts_of text ≡ text ∷ []
dot_missing text missing =
    elim (cases_lt (position_or_len is_dot text) (length text)) [
      | inl lt ↦ absurd (let some : Some (position_or_len is_dot text) ≡ None = rw (lt-ltb _ _ lt) at missing in cc)
      | inr le ↦ no_dot text le
    ]

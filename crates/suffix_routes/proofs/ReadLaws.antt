-- Numbers in text, and the keys of a table.
use Rattle.std.proofs.Common.{◌≡◌, ℕ, ◌+◌, ◌-◌, ◌*◌, ◌<◌, ◌≤◌, Bool, List, [], ◌∷◌, ◌++◌, length, get_or, take, drop, map, None, String, Global, string_bytes, refl, sym, ap, ◌∙◌, arith, inl, inr}
use Rattle.std.specs.Prelude.{fold, option_map}
use Rattle.std.specs.List.{find}
use Rattle.std.proofs.lemmas.Bool.{cases_Bool, lt-leb}
use Rattle.std.proofs.lemmas.List.{take-append-drop, take_more}
use Rattle.toml.specs.Data.{Data}
use Rattle.toml.specs.View.{members_of, items_of}
use Rattle.suffix_routes.specs.Peers.{decimal_value, up_to}
use Rattle.suffix_routes.specs.Reading.{keys_of, list_of}

abbrev more_digits : ℕ → ℕ → ℕ
more_digits n c = 10 * n + (c - 48)

-- more digits make no smaller number
fold_grows : (n : ℕ) (digits : List ℕ) → n ≤ fold more_digits n digits
fold_grows n [] = omega arith
fold_grows n (c ∷ cs) = omega (arith, fold_grows (10 * n + (c - 48)) cs)

fold-append : (n : ℕ) (front back : List ℕ) → fold more_digits n (front ++ back) ≡ fold more_digits (fold more_digits n front) back
fold-append n [] back = refl
fold-append n (c ∷ cs) back = fold-append (10 * n + (c - 48)) cs back

pub value_grows : (i : ℕ) (digits : List ℕ) → decimal_value (take i digits) ≤ decimal_value digits
value_grows i digits =
    let whole : fold more_digits 0 digits ≡ fold more_digits (fold more_digits 0 (take i digits)) (drop i digits) = ap (fold more_digits 0) (sym (take-append-drop i digits)) ∙ fold-append 0 (take i digits) (drop i digits) in
    omega (arith, whole, fold_grows (fold more_digits 0 (take i digits)) (drop i digits))

pub too_great : (i high : ℕ) (digits : List ℕ) → high < decimal_value (take i digits) → up_to high (decimal_value digits) ≡ None
too_great i high digits lt = let great : high < decimal_value digits = omega (arith, value_grows i digits) in rw (lt-leb (decimal_value digits) high great) refl

-- a map's keys are its members' keys, so the first strange key is the same
pub first-key : {V : Type 0} (view : V → Data) (strange : List ℕ → Bool) (es : List (String Global × V))
    → find strange (keys_of (members_of (map (λ (e : String Global × V). (e.0, view e.1)) es))) ≡ option_map string_bytes (find (λ k. strange (string_bytes k)) (map (λ (e : String Global × V). e.0) es))
first-key view strange [] = refl
first-key view strange (e ∷ es) =
    elim (cases_Bool (strange (string_bytes e.0))) [
      | inl is ↦ rw is refl
      | inr isnt ↦ rw isnt (first-key view strange es)
    ]

-- the items of an array as a list
pub list-of-items : (ds : List Data) → list_of (items_of ds) ≡ ds
list-of-items [] = refl
list-of-items (d ∷ ds) = ap (λ (rest : List Data). d ∷ rest) (list-of-items ds)

pub value_more : (i : ℕ) (digits : List ℕ) → i < length digits → decimal_value (take (i + 1) digits) ≡ 10 * decimal_value (take i digits) + (get_or digits i 0 - 48)
value_more i digits lt = ap (fold more_digits 0) (take_more digits i 0 lt) ∙ fold-append 0 (take i digits) (get_or digits i 0 ∷ [])

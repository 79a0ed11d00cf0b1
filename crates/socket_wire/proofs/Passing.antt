-- The rest of a walk in turn gets smaller.
use Rattle.std.proofs.Common.{◌≡◌, refl, ℕ, ◌+◌, ◌<◌, ◌≤◌, inl, inr, ◌⊎◌, List, [], ◌∷◌, length}
use Rattle.std.proofs.Common.{arith, sym, subst}
use Rattle.std.proofs.lemmas.Bool.Decides.{nat_tests, leb_tells}
use Rattle.std.proofs.lemmas.Grind.{common_steps}
use Rattle.std.specs.Prelude.{nat_le, if◌then◌else◌, ◌&&◌, ◌||◌}
use Rattle.ready_sockets.specs.Trying.{IsAmong}

pub is_from_or_below : (from number : ℕ) → (from ≤ number) ⊎ (number < from)
is_from_or_below from number = elim (leb_tells from number) [ inl w ↦ inl w.1 | inr w ↦ inr w.1 ]

-- 1 if `other` is yet to be passed on the way from `from` up to the sought number, with 0 after the
-- last
abbrev pub counted : (number from other : ℕ) → ℕ
counted number from other =
    if nat_le from number then (if nat_le from other && nat_le other number then 1 else 0)
    else (if nat_le from other || nat_le other number then 1 else 0)

-- the count of these numbers yet to be passed
abbrev pub ahead : (number from : ℕ) → List ℕ → ℕ
ahead number from [] = 0
ahead number from (first ∷ later) = counted number from first + ahead number from later

pub ahead_most : (number from : ℕ) (numbers : List ℕ) → ahead number from numbers ≤ length numbers
ahead_most number from [] = omega arith
ahead_most number from (first ∷ later) = grind
    (arith, nat_tests, common_steps, ahead_most number from later)

-- The sought number is yet to be passed.
pub counted_itself : (number from : ℕ) → counted number from number ≡ 1
counted_itself number from = grind (arith, nat_tests, common_steps)

pub ahead_some : (number from : ℕ) (numbers : List ℕ) → IsAmong number numbers
    → 0 < ahead number from numbers
ahead_some number from [] among = absurd among
ahead_some number from (first ∷ later) (inl is) =
    let here : counted number from first ≡ 1 =
    subst (λ n. counted number from n ≡ 1) (sym is) (counted_itself number from)
    in
    omega arith
ahead_some number from (first ∷ later) (inr among) =
    let behind : 0 < ahead number from later = ahead_some number from later among in
    omega arith

-- From the next number on, no more of these are left than before.
abbrev pub NoMore : (number from next : ℕ) → List ℕ → Type 0
NoMore number from next numbers =
    (other : ℕ) → IsAmong other numbers → counted number next other ≤ counted number from other

pub ahead_less : (number from next : ℕ) (numbers : List ℕ) → NoMore number from next numbers
    → ahead number next numbers ≤ ahead number from numbers
ahead_less number from next [] less = omega arith
ahead_less number from next (first ∷ later) less =
    let here : counted number next first ≤ counted number from first = less first (inl refl) in
    let behind : ahead number next later ≤ ahead number from later =
    ahead_less number from next later (λ other among. less other (inr among))
    in
    omega arith

pub ahead_falls : (number from next found : ℕ) (numbers : List ℕ) → NoMore number from next numbers
    → IsAmong found numbers → counted number next found < counted number from found
    → ahead number next numbers < ahead number from numbers
ahead_falls number from next found [] less among passed = absurd among
ahead_falls number from next found (first ∷ later) less (inl is) passed =
    let here : counted number next first < counted number from first =
    subst (λ n. counted number next n < counted number from n) (sym is) passed
    in
    let behind : ahead number next later ≤ ahead number from later =
    ahead_less number from next later (λ other among. less other (inr among))
    in
    omega arith
ahead_falls number from next found (first ∷ later) less (inr among) passed =
    let here : counted number next first ≤ counted number from first = less first (inl refl) in
    let behind : ahead number next later < ahead number from later =
    ahead_falls number from next found later (λ other among. less other (inr among)) among passed
    in
    omega arith

-- ---- the next begins after a found number, at 0 after the last, or else after the first

pub counted_behind : (number from found other : ℕ) → from ≤ found → (from ≤ number → found < number)
    → counted number (found + 1) other ≤ counted number from other
counted_behind number from found other h b = grind (arith, nat_tests, common_steps)

pub counted_sweep : (number from found other : ℕ) → from ≤ found → number < from → other ≤ found
    → counted number 0 other ≤ counted number from other
counted_sweep number from found other h r o = grind (arith, nat_tests, common_steps)

pub counted_anew : (number from other : ℕ) → number < from
    → counted number 0 other ≤ counted number from other
counted_anew number from other h = grind (arith, nat_tests, common_steps)

pub counted_first : (number from first other : ℕ) → first < number → number < from
    → counted number (first + 1) other ≤ counted number from other
counted_first number from first other h b = grind (arith, nat_tests, common_steps)

-- ---- a found number was yet to be passed, and then is not

pub found_counted : (number from found : ℕ) → from ≤ found → (from ≤ number → found < number)
    → counted number from found ≡ 1
found_counted number from found h b = grind (arith, nat_tests, common_steps)

pub first_counted : (number from first : ℕ) → first < number → number < from
    → counted number from first ≡ 1
first_counted number from first h b = grind (arith, nat_tests, common_steps)

pub found_passed : (number from found : ℕ) → from ≤ found → (from ≤ number → found < number)
    → counted number (found + 1) found ≡ 0
found_passed number from found h b = grind (arith, nat_tests, common_steps)

pub found_passed_sweep : (number found : ℕ) → number < found → counted number 0 found ≡ 0
found_passed_sweep number found h = grind (arith, nat_tests, common_steps)

-- ---- the cost of a try without a find

-- `most`, if the walk is yet to begin again
abbrev pub wraps : (most number from : ℕ) → ℕ
wraps most number from = if nat_le from number then 0 else most

pub no_wrap : (most number : ℕ) → wraps most number 0 ≡ 0
no_wrap most number = grind (arith, nat_tests, common_steps)

pub wraps_some : (most number from : ℕ) → number < from → wraps most number from ≡ most
wraps_some most number from h = grind (arith, nat_tests, common_steps)

pub wraps_most : (most number from : ℕ) → wraps most number from ≤ most
wraps_most most number from = grind (arith, nat_tests, common_steps)

pub wraps_behind : (most number from found : ℕ) → from ≤ found → (from ≤ number → found < number)
    → wraps most number (found + 1) ≤ wraps most number from
wraps_behind most number from found h b = grind (arith, nat_tests, common_steps)

-- ---- a walk with a different number found

-- Less of the walk is left.
pub record GoesOn (number from next : ℕ) (ever : List ℕ) : Type 0 where
  pub fewer : ahead number next ever < ahead number from ever
  pub wraps : (most : ℕ) → wraps most number next ≤ wraps most number from

pub goes_behind : (number from found : ℕ) (ever : List ℕ) → from ≤ found
    → (from ≤ number → found < number)
    → IsAmong found ever → GoesOn number from (found + 1) ever
goes_behind number from found ever h b among =
    let one : counted number from found ≡ 1 = found_counted number from found h b in
    let none : counted number (found + 1) found ≡ 0 = found_passed number from found h b in
    let more : NoMore number from (found + 1) ever = λ other is. counted_behind number from found
    other h b in
    record {
      fewer = ahead_falls number from (found + 1) found ever more among (omega arith);
      wraps = λ most. wraps_behind most number from found h b;
    }

pub goes_sweep : (number from found : ℕ) (ever : List ℕ) → from ≤ found
    → (from ≤ number → found < number)
    → number ≤ found → ((other : ℕ) → IsAmong other ever → other ≤ found) → IsAmong found ever
    → GoesOn number from 0 ever
goes_sweep number from found ever h b r last among =
    let sweep : number < from =
    elim (is_from_or_below from number) [
      | inl on ↦ let less : found < number = b on in absurd (omega arith)
      | inr below ↦ below
    ]
    in
    let one : counted number from found ≡ 1 = found_counted number from found h b in
    let none : counted number 0 found ≡ 0 = found_passed_sweep number found (omega arith) in
    let more : NoMore number from 0 ever = λ other is. counted_sweep number from found other h sweep
    (last other is) in
    record {
      fewer = ahead_falls number from 0 found ever more among (omega arith);
      wraps = λ most. let at_0 : wraps most number 0 ≡ 0 = no_wrap most number in omega arith;
    }

-- After the last of them the first was found.
pub goes_to_first : (number from first : ℕ) (ever : List ℕ) → first < number → number < from
    → IsAmong first ever
    → ahead number (first + 1) ever < ahead number from ever
goes_to_first number from first ever h b among =
    let one : counted number from first ≡ 1 = first_counted number from first h b in
    let none : counted number (first + 1) first ≡ 0 = found_passed number first first (omega arith)
    (λ _. h) in
    let more : NoMore number from (first + 1) ever = λ other is. counted_first number from first
    other h b in
    ahead_falls number from (first + 1) first ever more among (omega arith)

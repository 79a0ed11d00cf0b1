-- Walks over what is listed, worked by hand: how soon a number is found, and that it isn't found
-- sooner.
use Rattle.std.proofs.Common.{◌≡◌, refl, ℕ, ◌<◌, ◌⊎◌, List, [], ◌∷◌, Some, inl, inr, arith}
use Rattle.socket_wire.specs.InTurn.{IsGivenWithin, IsTriedInSweeps, IsTriedWithin}
use Rattle.socket_wire.specs.Trying.{next_from}

differ : (found number : ℕ) → (found < number) ⊎ (number < found) → Some found ≡ Some number → ⊥
differ found number order is =
    let same : found ≡ number = cc in
    elim order [ inl less ↦ omega arith | inr more ↦ omega arith ]

-- three ports that stay listed
abbrev pub three : ℕ → List (ℕ × ℕ)
three try = (3, 0) ∷ (5, 0) ∷ (9, 0) ∷ []

-- From 4 on 5, 9, none and then 3 are found: 3 within one try more than are listed, and not sooner.
pub three_in_four : IsTriedWithin 4 65536 3 4 three
three_in_four = inr (inr (inr (inl refl)))

pub three_in_three : IsTriedWithin 3 65536 3 4 three → ⊥
three_in_three (inl is) = differ 5 3 (inr (omega arith)) is
three_in_three (inr (inl is)) = differ 9 3 (inr (omega arith)) is
three_in_three (inr (inr (inl is))) = cc
three_in_three (inr (inr (inr none))) = none

-- In sweeps of two tries, of which the first begins after the last port: none; 3 and 5; 9.
pub nine_in_three_sweeps : IsTriedInSweeps 3 2 65536 9 10 three
nine_in_three_sweeps = inr (inr (inl refl))

pub nine_in_two_sweeps : IsTriedInSweeps 2 2 65536 9 10 three → ⊥
nine_in_two_sweeps (inl is) = omega arith
nine_in_two_sweeps (inr (inl is)) = omega arith
nine_in_two_sweeps (inr (inr none)) = none

-- After the last port of all the walk begins again at once.
abbrev pub first_and_last : ℕ → List (ℕ × ℕ)
first_and_last try = (1024, 0) ∷ (65535, 0) ∷ []

pub first_behind_last : IsTriedWithin 2 65536 1024 65535 first_and_last
first_behind_last = inr (inl refl)

pub first_not_at_last : IsTriedWithin 1 65536 1024 65535 first_and_last → ⊥
first_not_at_last (inl is) = differ 65535 1024 (inr (omega arith)) is
first_not_at_last (inr none) = none

-- Three tokens that stay noted: after 10 come 18, 26 and then 10 again.
abbrev pub tokens : ℕ → List ℕ
tokens turn = 10 ∷ 18 ∷ 26 ∷ []

pub same_in_three : IsGivenWithin 3 10 10 tokens
same_in_three = inr (inr (inl refl))

pub same_in_two : IsGivenWithin 2 10 10 tokens → ⊥
same_in_two (inl is) = differ 18 10 (inr (omega arith)) is
same_in_two (inr (inl is)) = differ 26 10 (inr (omega arith)) is
same_in_two (inr (inr none)) = none

-- After the last port of all comes the first; after the one before it comes the last.
pub behind_the_last : next_from 65536 (Some 65535) ≡ 0
behind_the_last = refl

pub behind_the_one_before : next_from 65536 (Some 65534) ≡ 65535
behind_the_one_before = refl

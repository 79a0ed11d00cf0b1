-- The lines of a step's actions, one by one.
use Rattle.std.proofs.Common.{◌≡◌, ◌++◌, ◌∷◌, [], ℕ, suc, ◌+◌, ◌<◌, ◌≤◌, List, length, drop, ap, ◌∙◌, arith}
use Rattle.std.specs.Prelude.{Some}
use Rattle.std.specs.List.{slice_get}
use Rattle.std.proofs.Math.Seq.{drop-cons}
use Rattle.std.proofs.lemmas.List.{drop_all}
use Rattle.std.proofs.lemmas.Option.{slice_get_within, get_or_from_slice_get}
use Rattle.step_values.specs.Values.{action_of, actions_of}
use Rattle.step_values.specs.declared.action.Action.{Action as OwnedAction}
use Rattle.replay_script.specs.Printing.{printed, printed_all}

rest_is : {X : Type 0} (xs : List X) (n : ℕ) (x : X) → slice_get xs n ≡ Some x → drop n xs ≡ x ∷ drop (n + 1) xs
rest_is xs n x found =
    let within : n < length xs = slice_get_within xs n x found in
    let one : suc n ≡ n + 1 = omega arith in
    drop-cons xs n x within
    ∙ (ap (λ y. y ∷ drop (suc n) xs) (get_or_from_slice_get xs n x x found) ∙ ap (λ (m : ℕ). x ∷ drop m xs) one)

-- The action at a place is the next.
pub printed_next : {A : Type 0} (line : ℕ) (actions : List (OwnedAction A)) (place : ℕ) (action : OwnedAction A)
    → slice_get actions place ≡ Some action → printed_all line (actions_of (drop place actions))
    ≡ printed line (action_of action) ++ printed_all line (actions_of (drop (place + 1) actions))
printed_next {A} line actions place action found =
    ap (λ (rest : List (OwnedAction A)). printed_all line (actions_of rest)) (rest_is actions place action found)

-- After the last action nothing is left.
pub printed_out : {A : Type 0} (line : ℕ) (actions : List (OwnedAction A)) (place : ℕ) → length actions ≤ place
    → printed_all line (actions_of (drop place actions)) ≡ []
printed_out {A} line actions place past =
    ap (λ (rest : List (OwnedAction A)). printed_all line (actions_of rest)) (drop_all place actions past)

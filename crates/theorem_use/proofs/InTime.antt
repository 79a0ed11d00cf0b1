-- After a step that reports nothing more, nothing is due, and after any other something is.
use Rattle.std.proofs.Common.{◌≡◌, ◌∙◌, ℕ, List, [], ◌∷◌, ◌++◌, true, false, sym, ap, subst}
use Rattle.std.specs.Prelude.{reverse}
use Rattle.std.specs.List.{concat}
use Rattle.std.proofs.lemmas.Bool.{true≢false}
use Rattle.std.proofs.lemmas.List.{reverse-append}
use Rattle.suffix_routes.specs.Values.{Config}
use Rattle.step_values.specs.Values.{Step}
use Rattle.step_history.specs.Accounting.{is_due, TellsMore}
use Rattle.step_table.specs.State.{State}
use Rattle.theorem_use.specs.Service.{ServesTruly, ComesTo}
use Rattle.theorem_use.specs.InTime.{IsInTime}
use Rattle.theorem_use.proofs.Theorem.{run_serves_truly}

last_reports : (c : Config) (t : Step) (past : List Step) (w : List (List ℕ)) → TellsMore c (t ∷ past) w
    → t.outcome.more ≡ is_due c (t ∷ past) (concat w)
last_reports c t past [] reports = absurd reports
last_reports c t past (is ∷ w) reports = reports.1

-- the last step reports whether something is due after it
reports_due : (c : Config) (steps : List Step) (t : Step) (truly : ServesTruly c (steps ++ t ∷ []))
    → t.outcome.more ≡ is_due c (reverse (steps ++ t ∷ [])) (concat truly.sound.owners)
reports_due c steps t truly =
    let owners = truly.sound.owners in
    let newest : reverse (steps ++ t ∷ []) ≡ t ∷ reverse steps = reverse-append steps (t ∷ []) in
    last_reports c t (reverse steps) owners
    (subst (λ (past : List Step). TellsMore c past owners) newest truly.sound.tells)
    ∙ ap (λ (past : List Step). is_due c past (concat owners)) (sym newest)

pub nothing_more_is_due : (c : Config) (steps : List Step) (t : Step) (s : State) → ComesTo c (steps ++ t ∷ []) s
    → t.outcome.more ≡ false → IsInTime c (steps ++ t ∷ [])
nothing_more_is_due c steps t s came none =
    let truly = run_serves_truly c (steps ++ t ∷ []) s came in
    record { truly = truly; none_due = sym (reports_due c steps t truly) ∙ none }

pub more_is_due : (c : Config) (steps : List Step) (t : Step) → t.outcome.more ≡ true
    → IsInTime c (steps ++ t ∷ []) → ⊥
more_is_due c steps t more h = true≢false (sym more ∙ reports_due c steps t h.truly ∙ h.none_due)

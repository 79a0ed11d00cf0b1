-- Whole runs.
use Rattle.std.specs.Prelude.{◌≡◌, ℕ, ◌≤◌, List, [], ◌∷◌, reverse, length}
use Rattle.std.specs.List.{concat}
use Rattle.suffix_routes.specs.Values.{Config}
use Rattle.step_values.specs.Values.{StepInput, Outcome, Step}
use Rattle.step_history.specs.Sound.{Sound, unanswered}
use Rattle.step_history.specs.Accounting.{TellsMore}
use Rattle.step_table.specs.State.{State}
use Rattle.step_table.specs.Row.{Row}
use Rattle.theorem_sound.specs.Explains.{Explains}

-- these steps are rows in order, the oldest first, from s to s'
abbrev pub Run : Config → State → List Step → State → Type 0
Run c s [] s' = s' ≡ s
Run c s (t ∷ steps) s' = (mid : State) × Row c s t.input t.outcome mid × Run c mid steps s'

-- With some owners these steps, the oldest first, are `Sound` and say what is due. The questions
-- without a reply are no more than may wait.
pub record IsSound (c : Config) (steps : List Step) : Type 0 where
  pub owners : List (List ℕ)
  pub sound : Sound c (reverse steps) owners
  pub tells : TellsMore c (reverse steps) owners
  pub few : length (unanswered (reverse steps) (concat owners)) ≤ c.limits.questions

-- these steps, the oldest first, explain s for some owners
abbrev pub IsExplained : Config → List Step → State → Type 0
IsExplained c steps s = (w : List (List ℕ)) × Explains c (reverse steps) w s

-- a history that explains s, and this step, explain s' for some owners
abbrev pub StaysExplained : Config → State → StepInput → Outcome → State → Type 0
StaysExplained c s h o s' = (past : List Step) (w : List (List ℕ)) → Explains c past w s → (owners : List ℕ)
    × Explains c (record { input = h; outcome = o } ∷ past) (owners ∷ w) s'

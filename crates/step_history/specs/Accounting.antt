-- The questions and asks that are due after a step.
use Rattle.std.specs.Prelude.{◌≡◌, ℕ, ◌+◌, Bool, if◌then◌else◌, ◌==◌, ◌||◌, nat_le, List, [], ◌∷◌, length}
use Rattle.std.specs.List.{list_any, concat}
use Rattle.suffix_routes.specs.Values.{Config}
use Rattle.step_values.specs.Values.{Step}
use Rattle.step_history.specs.History.{moment_at, listed}
use Rattle.step_history.specs.Sound.{unanswered}

-- the effective moment of the step with this number
abbrev pub moment_of : List Step → ℕ → ℕ
moment_of [] i = 0
moment_of (s ∷ past) i = if i == length past then moment_at (s ∷ past) else moment_of past i

-- a question of the era without a reply has waited for `deadline_ms`, or a listed ask for `ask_ms`,
-- or longer
abbrev pub is_due : Config → List Step → List ℕ → Bool
is_due c now owners =
    list_any (λ i. nat_le (moment_of now i + c.limits.deadline_ms) (moment_at now)) (unanswered now owners)
    || list_any (λ a. nat_le (a.moment + c.limits.ask_ms) (moment_at now)) (listed now)

-- each step says whether more is due
abbrev pub TellsMore : Config → List Step → List (List ℕ) → Type 0
TellsMore c [] w = Unit {0}
TellsMore c (s ∷ past) [] = ⊥
TellsMore c (s ∷ past) (is ∷ w) = TellsMore c past w × (s.outcome.more ≡ is_due c (s ∷ past) (concat (is ∷ w)))

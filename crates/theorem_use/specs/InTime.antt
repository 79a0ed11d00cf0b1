-- Runs after which nothing is due.
use Rattle.std.specs.Prelude.{◌≡◌, false, List, [], ◌∷◌, ◌++◌, reverse}
use Rattle.std.specs.List.{concat}
use Rattle.suffix_routes.specs.Values.{Config}
use Rattle.step_values.specs.Values.{Step}
use Rattle.step_history.specs.Accounting.{is_due}
use Rattle.theorem_use.specs.Service.{ServesTruly}

-- These steps, the oldest first, serve truly, with owners by which nothing is due after the last
-- one: no question of the era without a reply has waited for `deadline_ms`, and no listed ask for
-- `ask_ms`.
pub record IsInTime (c : Config) (steps : List Step) : Type 0 where
  pub truly : ServesTruly c steps
  pub none_due : is_due c (reverse steps) (concat truly.sound.owners) ≡ false

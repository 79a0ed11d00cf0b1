-- The theorem.
use Rattle.std.specs.Prelude.{List, [], reverse}
use Rattle.suffix_routes.specs.Values.{Config, IsConfig}
use Rattle.step_values.specs.Values.{StepInput, Outcome, Step}
use Rattle.step_history.specs.Asked.{AsksWell}
use Rattle.step_table.specs.State.{State}
use Rattle.step_table.specs.Steps.{initial}
use Rattle.step_table.specs.Row.{Row}
use Rattle.theorem_sound.specs.Explains.{Explains}
use Rattle.theorem_sound.specs.Runs.{Run, IsSound, StaysExplained}

-- Each row keeps the state explained: `StaysExplained`.
abbrev pub RowsKeepWhatExplains : Type 0
RowsKeepWhatExplains = (c : Config) (s : State) (h : StepInput) (o : Outcome) (s' : State) → Row c s h o s'
    → StaysExplained c s h o s'

-- The empty history explains a new forwarder.
abbrev pub NothingExplainsAStart : Type 0
NothingExplainsAStart = (c : Config) → IsConfig c → Explains c [] [] (initial c)

-- Each run from a new forwarder is sound and asks well.
abbrev pub RunsAreSound : Type 0
RunsAreSound = (c : Config) (steps : List Step) (s : State) → IsConfig c → Run c (initial c) steps s → IsSound c steps
    × AsksWell c (reverse steps)

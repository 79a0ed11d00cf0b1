-- Statements about the actions of each row of the table.
use Rattle.std.specs.Prelude.{◌≤◌, List, length, IsSome}
use Rattle.std.specs.List.{filter_map, AllByRecursion}
use Rattle.suffix_routes.specs.Values.{Config}
use Rattle.outstanding.specs.declared.ask.Path.{Path}
use Rattle.outstanding.specs.Lists.{on_path}
use Rattle.outstanding.specs.Values.{Ask}
use Rattle.step_values.specs.Values.{Action, SentAsk, ask_in, closed_path_in, StepInput, Outcome}
use Rattle.step_table.specs.State.{State}
use Rattle.step_table.specs.Row.{Row}

-- the asks that these actions send
abbrev pub asks_in : List Action → List SentAsk
asks_in actions = filter_map ask_in actions

-- the paths that they give up
abbrev pub closed_in : List Action → List Path
closed_in actions = filter_map closed_path_in actions

-- an ask is listed on the path
abbrev pub IsListedOn : List Ask → Path → Type 0
IsListedOn asks path = IsSome (on_path path asks)

-- A step asks once at most.
abbrev pub StepsAskOnceAtMost : Type 0
StepsAskOnceAtMost =
    (c : Config) (s : State) (h : StepInput) (o : Outcome) (s' : State) → Row c s h o s' → length (asks_in o.actions) ≤ 1

-- A step gives up one path at most.
abbrev pub StepsCloseOnceAtMost : Type 0
StepsCloseOnceAtMost =
    (c : Config) (s : State) (h : StepInput) (o : Outcome) (s' : State) → Row c s h o s' → length (closed_in o.actions) ≤ 1

-- A step gives up no path but that of a listed ask.
abbrev pub StepsCloseWhatIsListed : Type 0
StepsCloseWhatIsListed =
    (c : Config) (s : State) (h : StepInput) (o : Outcome) (s' : State) → Row c s h o s'
    → AllByRecursion (IsListedOn s.asks) (closed_in o.actions)

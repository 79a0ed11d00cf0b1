-- Turns that end in time.
use Rattle.std.specs.Prelude.{List, [], ◌∷◌, ◌++◌, Option, Some, None}
use Rattle.suffix_routes.specs.Values.{Config}
use Rattle.step_values.specs.Values.{StepInput, Outcome, Step}
use Rattle.forwarder_core.specs.TheoremUse.InTime.{IsInTime}
use Rattle.serving_loop.specs.Events.{Taken, steps_in, joined, Turn, taken_in_turn}

-- after the steps `done` and this one, unless it found no memory, nothing is due
abbrev pub LeavesNothingDue : Config → List Step → StepInput → Option Outcome → Type 0
LeavesNothingDue c done input None = Unit {0}
LeavesNothingDue c done input (Some outcome) = IsInTime c (done ++ record { input = input; outcome = outcome } ∷ [])

-- nothing is due after the tick, the first step of its chain
abbrev pub TickLeavesNothingDue : Config → List Step → List Taken → Type 0
TickLeavesNothingDue c done [] = Unit {0}
TickLeavesNothingDue c done (x ∷ taken) = LeavesNothingDue c done x.input x.answer

-- nothing is due after the last of these ticks
abbrev pub EndInTime : Config → List Step → List (List Taken) → Type 0
EndInTime c done [] = Unit {0}
EndInTime c done (chain ∷ []) = TickLeavesNothingDue c done chain
EndInTime c done (chain ∷ next ∷ chains) = EndInTime c (done ++ steps_in chain) (next ∷ chains)

-- nothing is due after the last tick of each turn, unless the tick found no memory
abbrev pub AreInTime : Config → List Step → List Turn → Type 0
AreInTime c done [] = Unit {0}
AreInTime c done (r ∷ all_turns) = EndInTime c (done ++ steps_in (joined r.served)) r.ticks
    × AreInTime c (done ++ steps_in (taken_in_turn r)) all_turns

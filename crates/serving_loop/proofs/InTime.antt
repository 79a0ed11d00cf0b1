-- Turns end in time: their last tick reports nothing more.
use Rattle.std.proofs.Common.{◌≡◌, refl, sym, ap, subst, ℕ, List, [], ◌∷◌, ◌++◌, append_assoc, Option, Some, None, Bool, true, false}
use Rattle.std.specs.List.{AllByRecursion}
use Rattle.std.proofs.lemmas.List.Elements.{filter_map-append}
use Rattle.suffix_routes.specs.Values.{Config}
use Rattle.step_values.specs.Values.{StepInput, Outcome, Step}
use Rattle.forwarder_core.specs.StepTable.State.{State}
use Rattle.forwarder_core.specs.StepTable.Steps.{initial}
use Rattle.forwarder_core.specs.TheoremSound.Runs.{Run}
use Rattle.forwarder_core.specs.TheoremUse.Service.{ComesTo}
use Rattle.forwarder_core.proofs.TheoremUse.CallerLemmas.{came_more, nothing_more_is_due}
use Rattle.wires.specs.Wire.{Arrival, Put}
use Rattle.serving_loop.specs.Events.{Taken, step_in, steps_in, joined, more_in, reports_more, AreTicks, Turn, taken_in_turn, taken_in, AreTurns}
use Rattle.serving_loop.specs.InTime.{LeavesNothingDue, TickLeavesNothingDue, EndInTime, AreInTime}
use Rattle.serving_loop.proofs.Handling.{run_append}

-- ---- parts of a run

run_split : (c : Config) (s s' : State) (xs ys : List Step) → Run c s (xs ++ ys) s'
    → (m : State) × Run c s xs m × Run c m ys s'
run_split c s s' [] ys run = (s, refl, run)
run_split c s s' (x ∷ xs) ys run =
    let rest = run_split c run.0 s' xs ys run.2 in (rest.0, (run.0, run.1, rest.1), rest.2)

taken_split : (c : Config) (s s' : State) (xs ys : List Taken) → Run c s (steps_in (xs ++ ys)) s'
    → (m : State) × Run c s (steps_in xs) m × Run c m (steps_in ys) s'
taken_split c s s' xs ys run = run_split c s s' (steps_in xs) (steps_in ys)
    (subst (λ (steps : List Step). Run c s steps s') (filter_map-append step_in xs ys) run)

comes_on : (c : Config) (s s' : State) (done more : List Step) → ComesTo c done s → Run c s more s'
    → ComesTo c (done ++ more) s'
comes_on c s s' done more came run =
    record { config = came.config; run = run_append c (initial c) s s' done more came.run run }

-- ---- ticks

no_more : (more : Bool) → AreTicks more [] → more ≡ false
no_more false none = refl
no_more true none = absurd none

leaves_nothing_due : (c : Config) (done : List Step) (s s' : State) (input : StepInput) (answer : Option Outcome)
    (puts : List Put) (taken : List Taken) → ComesTo c done s → more_in answer ≡ false
    → Run c s (steps_in (record { input = input; answer = answer; puts = puts } ∷ taken)) s'
    → LeavesNothingDue c done input answer
leaves_nothing_due c done s s' input None puts taken came none run = tt
leaves_nothing_due c done s s' input (Some o) puts taken came none run =
    let t : Step = record { input = input; outcome = o } in
    nothing_more_is_due c done t run.0 (came_more c c done (done ++ t ∷ []) s run.0 input o refl refl came run.1) none

tick_leaves_nothing_due : (c : Config) (done : List Step) (s s' : State) (chain : List Taken) → ComesTo c done s
    → reports_more chain ≡ false → Run c s (steps_in chain) s' → TickLeavesNothingDue c done chain
tick_leaves_nothing_due c done s s' [] came none run = tt
tick_leaves_nothing_due c done s s' (x ∷ taken) came none run =
    leaves_nothing_due c done s s' x.input x.answer x.puts taken came none run

ends_in_time : (c : Config) (done : List Step) (s s' : State) (more : Bool) (chains : List (List Taken))
    → ComesTo c done s → AreTicks more chains → Run c s (steps_in (joined chains)) s' → EndInTime c done chains
ends_in_time c done s s' more [] came ticks run = tt
ends_in_time c done s s' false (chain ∷ chains) came ticks run = absurd ticks
ends_in_time c done s s' true (chain ∷ []) came ticks run =
    let parts = taken_split c s s' chain [] run in
    tick_leaves_nothing_due c done s parts.0 chain came (no_more (reports_more chain) ticks.1) parts.1
ends_in_time c done s s' true (chain ∷ next ∷ chains) came ticks run =
    let parts = taken_split c s s' chain (joined (next ∷ chains)) run in
    ends_in_time c (done ++ steps_in chain) parts.0 s' (reports_more chain) (next ∷ chains)
    (comes_on c s parts.0 done (steps_in chain) came parts.1) ticks.1 parts.2

-- ---- turns

-- the turn has ticks until a tick reports nothing more, or none
abbrev pub EndsTicks : Turn → Type 0
EndsTicks r = (more : Bool) × AreTicks more r.ticks

pub turns_end_ticks : (c : Config) (past : List (Option Arrival)) (all_turns : List Turn) → AreTurns c past all_turns
    → AllByRecursion EndsTicks all_turns
turns_end_ticks c past [] are = tt
turns_end_ticks c past (r ∷ all_turns) are =
    ((true, are.0.ticks), turns_end_ticks c (past ++ r.arrival ∷ []) all_turns are.1)

pub end_ticks_too : (all_turns : List Turn) (r : Turn) → AllByRecursion EndsTicks all_turns → r.ticks ≡ []
    → AllByRecursion EndsTicks (all_turns ++ r ∷ [])
end_ticks_too [] r all none = ((false, subst (AreTicks false) (sym none) tt), tt)
end_ticks_too (u ∷ all_turns) r all none = (all.0, end_ticks_too all_turns r all.1 none)

pub turns_in_time : (c : Config) (done : List Step) (s s' : State) (all_turns : List Turn) → ComesTo c done s
    → AllByRecursion EndsTicks all_turns → Run c s (steps_in (taken_in all_turns)) s' → AreInTime c done all_turns
turns_in_time c done s s' [] came all run = tt
turns_in_time c done s s' (r ∷ all_turns) came all run =
    let parts = taken_split c s s' (taken_in_turn r) (taken_in all_turns) run in
    let own = taken_split c s parts.0 (joined r.served) (joined r.ticks) parts.1 in
    let served = comes_on c s own.0 done (steps_in (joined r.served)) came own.1 in
    let turned = comes_on c s parts.0 done (steps_in (taken_in_turn r)) came parts.1 in (
      ends_in_time c (done ++ steps_in (joined r.served)) own.0 parts.0 all.0.0 r.ticks served all.0.1 own.2,
      turns_in_time c (done ++ steps_in (taken_in_turn r)) parts.0 s' all_turns turned all.1 parts.2,
    )

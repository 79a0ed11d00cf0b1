-- The fate of a question, by its look-up.
use Rattle.std.specs.Prelude.{◌≡◌, Some}
use Rattle.suffix_routes.specs.Serving.{serving_route_of}
use Rattle.step_values.specs.Values.{action_of}
use Rattle.step_texts.specs.WaitingQuestions.Values.{Waiting}
use Rattle.step_texts.specs.AliasChains.LookingUp.{LookUp}
use Rattle.step_texts.specs.StepTable.State.{StepStart}
use Rattle.step_texts.specs.StepTable.Steps.{gets, waits}
use Rattle.step_texts.specs.StepTable.Clients.{fate_of, waits_with}
use Rattle.step_actions.specs.declared.fate.Fate.{Fate}
use Rattle.step_actions.specs.declared.fate.Fate.TheVariants.{Reply, Waits}

-- the fate that the table gives a question with this look-up: it gets this reply, or waits with
-- what was looked up, and this route serves the name that it wants
abbrev pub IsFate : {A : Type 0} → StepStart → Waiting → LookUp → Fate A → Type 0
IsFate t x l (Reply action) = gets (action_of action) ≡ fate_of t.config t.moment x l
IsFate t x l (Waits route) = (waits (waits_with x l) ≡ fate_of t.config t.moment x l)
    × (serving_route_of t.config l.wanted.name ≡ Some route)

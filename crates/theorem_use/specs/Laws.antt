-- Statements about use and service.
use Rattle.std.specs.Prelude.{◌≡◌, ℕ, false, List, [], ◌∷◌}
use Rattle.std.specs.List.{AllByRecursion}
use Rattle.dns_message.specs.Questions.{same_question}
use Rattle.suffix_routes.specs.Values.{Config, IsConfig}
use Rattle.trust_rank.specs.Values.{Piece}
use Rattle.step_values.specs.Values.{StepInput, Outcome, Step}
use Rattle.step_history.specs.Given.{EndsHere, GivesWhatCame}
use Rattle.step_history.specs.History.{Accepts}
use Rattle.step_table.specs.State.{State}
use Rattle.step_table.specs.Steps.{initial}
use Rattle.step_table.specs.Row.{Row}
use Rattle.theorem_use.specs.Asking.{AsksForWaiting}
use Rattle.theorem_use.specs.Mirrors.{FullyExplains, StaysFullyExplained}
use Rattle.theorem_use.specs.Service.{ServesTruly, ComesTo}

-- Each row keeps the state fully explained: `StaysFullyExplained`.
abbrev pub RowsKeepWhatFullyExplains : Type 0
RowsKeepWhatFullyExplains = (c : Config) (s : State) (h : StepInput) (o : Outcome) (s' : State) → Row c s h o s'
    → StaysFullyExplained c s h o s'

-- The empty history fully explains a new forwarder.
abbrev pub NothingFullyExplainsAStart : Type 0
NothingFullyExplainsAStart = (c : Config) → IsConfig c → FullyExplains c [] [] (initial c)

-- Each run from a new forwarder serves truly.
abbrev pub RunsServeTruly : Type 0
RunsServeTruly = (c : Config) (steps : List Step) (s : State) → ComesTo c steps s → ServesTruly c steps

-- After a step that accepts a reply whose content ends, no waiting question wants the question of
-- this reply.
abbrev pub NobodyWaitsForWhatCame : Type 0
NobodyWaitsForWhatCame = (c : Config) (s : Step) (past : List Step) (pieces servers : List Piece)
    (a : Accepts c s past pieces servers) → EndsHere a.end → GivesWhatCame c (s ∷ past)
    → (owners : List ℕ) (h : AsksForWaiting c s past owners)
    → AllByRecursion (λ q. same_question q a.asked ≡ false) h.wanted

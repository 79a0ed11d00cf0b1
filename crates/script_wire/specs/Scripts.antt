-- A wire in memory: its stored values, and its script.
use Rattle.std.specs.Prelude.{◌≡◌, ◌⊎◌, ℕ, ◌+◌, ◌-◌, ◌^◌, ◌==◌, min, Bool, List, [], ◌∷◌, Option, Some, None}
use Rattle.std.specs.Prelude.{nat_lt, if◌then◌else◌}
use Rattle.std.specs.Prelude.{drop}
use Rattle.std.specs.List.{list_any}
use Rattle.step_values.specs.declared.action.Action.{Action as OwnedAction}
use Rattle.step_values.specs.Values.{action_of}
use Rattle.script_wire.specs.declared.script_wire.ScriptTurn.{ScriptTurn}
use Rattle.wires.specs.Wire.{Arrival, Put, Report, report_then, arrival_of}
use Rattle.wires.specs.Wire.Arrival.{nothing}

-- a put of the code as a plain value
abbrev pub put_of : {A : Type 0} → OwnedAction A × Bool → Put
put_of p = record { action = action_of p.0; sent = p.1 }

-- the report, unless memory ran out before
abbrev pub stored : Bool → List (Option Arrival) → List Put → List ℕ → List (List ℕ) → Option Report
stored reports arrivals puts moments words =
    if reports then Some (record { arrivals = arrivals; puts = puts; moments = moments; words = words }) else None

-- ---- its script

-- a turn: its arrival, and the moment and the words of each step
pub record Turn : Type 0 where
  pub arrival : Arrival
  pub moment : ℕ
  pub words : List ℕ

-- a turn of the script as a plain value
abbrev pub turn_of : {A : Type 0} → ScriptTurn A → Turn
turn_of turn = record { arrival = arrival_of turn.arrival; moment = turn.moment; words = turn.words }

-- A wire in memory: its report, and its number of faults; the turns to come; the moment and the
-- words of the present turn (before the first turn, of the first); the numbers of the refused
-- calls of `arrival` and `put`, and the number of such calls so far.
pub record Script : Type 0 where
  pub report : Option Report
  pub faults : ℕ
  pub to_come : List Turn
  pub moment : ℕ
  pub words : List ℕ
  pub refuse : List ℕ
  pub calls : ℕ

-- without a turn, nothing arrives at the moment 0, and all words are 0
abbrev pub no_turn : Turn
no_turn = record { arrival = nothing; moment = 0; words = 0 ∷ 0 ∷ 0 ∷ 0 ∷ 0 ∷ 0 ∷ 0 ∷ 0 ∷ [] }

-- the turn of a wire before the first of its turns begins
abbrev pub standing : List Turn → Turn
standing [] = no_turn
standing (turn ∷ later) = turn

-- the next turn; after the last turn nothing arrives, and the moment and the words stay
abbrev pub next_of : Script → List Turn → Turn
next_of script [] = record { arrival = nothing; moment = script.moment; words = script.words }
next_of script (turn ∷ later) = turn

-- the next turn
abbrev pub next_turn : Script → Turn
next_turn script = next_of script script.to_come

-- the script once its next turn has begun
abbrev pub begun : Script → Script
begun script = record script {
  to_come = drop 1 script.to_come;
  moment = (next_turn script).moment;
  words = (next_turn script).words;
}

-- whether the next call of `arrival` or `put` is refused
abbrev pub refuses : Script → Bool
refuses script = list_any (λ number. number == script.calls) script.refuse

-- the script after one more call of `arrival` or `put`
abbrev pub calls_once : Script → Script
calls_once script = record script { calls = min (script.calls + 1) (2 ^ 64 - 1) }

-- the wire after one more fault
abbrev pub faults_once : Script → Script
faults_once script = record script { faults = script.faults + 1 }

-- the script once memory ran out in a call: the count of faults rises, up to its last value
abbrev pub counts_want : Script → Script
counts_want script = record script {
  faults = if nat_lt script.faults (2 ^ 64 - 1) then script.faults + 1 else script.faults;
}

-- A script equal in all but its report.
abbrev pub AllButReport : Script → Script → Type 0
AllButReport wanted script = script ≡ record wanted { report = script.report }

-- An equal script, whose report is the report before, with this report at its end.
abbrev pub Reports : Script → Option Report → Report → Script → Type 0
Reports wanted report more script = script ≡ record wanted { report = report_then report more }

-- An equal script, silent from now on.
abbrev pub IsSilent : Script → Script → Type 0
IsSilent wanted script = script ≡ record wanted { report = None }

-- The report of the call is stored, and nothing else changes; or memory ran out, a fault after
-- which nothing is reported.
abbrev pub Stores : Script → Report → Script → Type 0
Stores old more new = Reports old old.report more new ⊎ IsSilent (counts_want old) new

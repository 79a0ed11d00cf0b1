-- The steps of a replay, and their printed lines.
use Rattle.std.specs.Prelude.{◌≡◌, ◌⊎◌, ℕ, ◌+◌, nat_le, if◌then◌else◌, List, [], ◌∷◌, ◌++◌, length, Option}
use Rattle.std.specs.Prelude.{IfSome, Result, Ok, Err}
use Rattle.std.specs.Io.KnownBytes.{Appends}
use Rattle.suffix_routes.specs.Values.{Config as ConfigValue}
use Rattle.suffix_routes.specs.Reading.{IsReadIn}
use Rattle.step_values.specs.Values.{Event, StepInput, Step}
use Rattle.forwarder_core.specs.StepTable.State.{Running}
use Rattle.forwarder_core.specs.StepTable.Steps.{initial}
use Rattle.forwarder_core.specs.TheoremSound.Runs.{Run}
use Rattle.forwarder_core.specs.TheoremUse.Service.{ServesTruly}
use Rattle.replay_script.specs.declared.events.TheConstants.{MOST_LINES}
use Rattle.replay_script.specs.declared.events.Refusal.{Refusal}
use Rattle.replay_script.specs.declared.events.Refusal.TheVariants.{Form}
use Rattle.replay_script.specs.declared.fault.ReplayFault.{ReplayFault}
use Rattle.replay_script.specs.declared.fault.ReplayFault.TheVariants.{Config, Line, Memory, Device}
use Rattle.replay_script.specs.Configs.{IsRefused, IsOfStream}
use Rattle.replay_script.specs.Lines.{line_in}
use Rattle.replay_script.specs.Parts.{is_feed, AreParts, HasOnePart}
use Rattle.replay_script.specs.Printing.{printed_all, printed_steps, Begins}
use Rattle.replay_script.specs.Words.{words_of}

-- ---- event lines

-- lines with a further octet at the front of the first
abbrev pub begun : ℕ → List (List ℕ) → List (List ℕ)
begun octet [] = (octet ∷ []) ∷ []
begun octet (line ∷ lines) = (octet ∷ line) ∷ lines

-- the lines of a text, without their line feeds; the last may lack its own
abbrev pub lines_of : List ℕ → List (List ℕ)
lines_of [] = []
lines_of (octet ∷ text) = if is_feed octet then [] ∷ lines_of text else begun octet (lines_of text)

abbrev pub with_words : ℕ → Result (ℕ × Event) Refusal → Result StepInput Refusal
with_words number (Ok timed) = Ok (record { now = timed.0; words = words_of number; event = timed.1 })
with_words number (Err refusal) = Err refusal

-- the input of the event line with this number; a line after the last allowed number is refused
abbrev pub input_in : ℕ → List ℕ → Result StepInput Refusal
input_in number line = if nat_le number MOST_LINES then with_words number (line_in line) else Err Form

-- ---- runs of lines, of which the first has this number

-- Each step has the input of its line, in order. Lines may be left.
abbrev pub AreOfLines : ℕ → List (List ℕ) → List Step → Type 0
AreOfLines number lines [] = Unit {0}
AreOfLines number [] (t ∷ steps) = ⊥
AreOfLines number (line ∷ lines) (t ∷ steps) =
    (input_in number line ≡ Ok t.input) × AreOfLines (number + 1) lines steps

-- The line after the lines of the steps is refused, and has the number `refused`.
abbrev pub IsRefusedAfter : ℕ → List (List ℕ) → List Step → ℕ → Type 0
IsRefusedAfter number [] steps refused = ⊥
IsRefusedAfter number (line ∷ lines) [] refused = (refused ≡ number) × (input_in number line ≡ Err Form)
IsRefusedAfter number (line ∷ lines) (t ∷ steps) refused = IsRefusedAfter (number + 1) lines steps refused

-- The end of a run with these steps: each line was run; or the next is refused; or memory ran out
-- or the writer failed, at any point.
abbrev pub Ends : ℕ → List (List ℕ) → List Step → Result (Unit {0}) ReplayFault → Type 0
Ends number lines steps (Ok done) = length steps ≡ length lines
Ends number lines steps (Err (Config fault)) = ⊥
Ends number lines steps (Err (Line refused)) = IsRefusedAfter number lines steps refused
Ends number lines steps (Err Memory) = Unit {0}
Ends number lines steps (Err Device) = Unit {0}

-- The written text of steps: all lines of each, and a beginning of the lines of the last.
abbrev pub IsCutShort : ℕ → List Step → List ℕ → Type 0
IsCutShort number [] written = written ≡ []
IsCutShort number (t ∷ steps) written =
    ((steps ≡ []) × Begins written (printed_all number t.outcome.actions))
    ⊎ ((more : List ℕ) × (written ≡ printed_all number t.outcome.actions ++ more)
    × IsCutShort (number + 1) steps more)

abbrev pub WritesCutShort : Option (List ℕ) → ℕ → List Step → Option (List ℕ) → Type 0
WritesCutShort held number steps held' =
    (written : List ℕ) × IsCutShort number steps written × Appends held held' written

-- The written text of a run with these steps: all their lines, unless memory ran out or the writer
-- failed.
abbrev pub Prints : Option (List ℕ) → ℕ → List Step → Result (Unit {0}) ReplayFault → Option (List ℕ) → Type 0
Prints held number steps (Ok done) held' = Appends held held' (printed_steps number steps)
Prints held number steps (Err (Config fault)) held' = ⊥
Prints held number steps (Err (Line refused)) held' = Appends held held' (printed_steps number steps)
Prints held number steps (Err Memory) held' = WritesCutShort held number steps held'
Prints held number steps (Err Device) held' = WritesCutShort held number steps held'

-- A run of lines: its steps are rows, in order, from the forwarder before to the forwarder after.
pub record RunsLines (number : ℕ) (lines : List (List ℕ)) (before : Running) (held : Option (List ℕ))
    (result : Result (Unit {0}) ReplayFault) (after : Running) (held' : Option (List ℕ)) : Type 0 where
  pub steps : List Step
  pub config : after.config ≡ before.config
  pub run : Run before.config before.state steps after.state
  pub lines_are : AreOfLines number lines steps
  pub ends : Ends number lines steps result
  pub prints : Prints held number steps result held'

-- ---- runs of scripts

-- The event lines of a script were run on a new forwarder of its configuration.
pub record RunsScript (script : List ℕ) (held : Option (List ℕ)) (result : Result (Unit {0}) ReplayFault)
    (held' : Option (List ℕ)) : Type 0 where
  pub text : List ℕ
  pub events : List ℕ
  pub parts : AreParts script text events
  pub config : ConfigValue
  pub read : IsReadIn text (Ok config)
  pub after : Running
  pub runs : RunsLines 1 (lines_of events) (record { config = config; state = initial config }) held result after held'
  pub truly : ServesTruly config runs.steps

-- why no line of a script was run
abbrev pub IsFaultBefore : List ℕ → ReplayFault → Type 0
IsFaultBefore script (Config fault) = (text events : List ℕ) × AreParts script text events × IsRefused text fault
IsFaultBefore script (Line line) = (line ≡ 0) × HasOnePart script
IsFaultBefore script Memory = Unit {0}
IsFaultBefore script Device = ⊥

-- No line was run, for such a fault, and nothing was written.
abbrev pub StopsBefore : (ReplayFault → Type 0) → Option (List ℕ) → Result (Unit {0}) ReplayFault → Option (List ℕ)
    → Type 0
StopsBefore IsWhy held (Ok done) held' = ⊥
StopsBefore IsWhy held (Err fault) held' = IsWhy fault × (held' ≡ held)

-- A replay of this script runs its lines, or stops before: for a fault of the script, or out of
-- memory.
abbrev pub ReplaysText : List ℕ → Option (List ℕ) → Result (Unit {0}) ReplayFault → Option (List ℕ) → Type 0
ReplaysText script held result held' =
    RunsScript script held result held' ⊎ StopsBefore (IsFaultBefore script) held result held'

-- A script was read to its end (all octets left to the reader, if known) and was replayed.
pub record ReplaysRead (left : Option (List ℕ)) (held : Option (List ℕ)) (result : Result (Unit {0}) ReplayFault)
    (held' : Option (List ℕ)) : Type 0 where
  pub script : List ℕ
  pub whole : IfSome left (λ all. script ≡ all)
  pub replays : ReplaysText script held result held'

-- A replay replays the octets read; or memory ran out or reading failed, and nothing was written.
abbrev pub Replays : Option (List ℕ) → Option (List ℕ) → Result (Unit {0}) ReplayFault → Option (List ℕ) → Type 0
Replays left held result held' = ReplaysRead left held result held' ⊎ StopsBefore IsOfStream held result held'

-- The effect of `serve` over a wire.
use Rattle.std.specs.Prelude.{◌≡◌, ℕ, ◌+◌, ◌-◌, ◌^◌, ◌≤◌, Bool, true, false, if◌then◌else◌, min, List, [], ◌∷◌, ◌++◌}
use Rattle.std.specs.Prelude.{length, map, Option, Some, None, Result, Ok, Err}
use Rattle.std.specs.List.{AllByRecursion}
use Rattle.std.specs.declared.alloc.AllocError.{AllocError}
use Rattle.step_values.specs.Values.{ask_in, SentAsk, Outcome, Step}
use Rattle.forwarder_core.specs.StepTable.State.{Running}
use Rattle.forwarder_core.specs.StepTable.Progress.{left_to_do}
use Rattle.forwarder_core.specs.TheoremSound.Runs.{Run}
use Rattle.forwarder_core.specs.TheoremUse.Service.{ComesTo, ServesOnTruly}
use Rattle.serving_loop.specs.declared.counts.Served.{Served}
use Rattle.serving_loop.specs.declared.looping.Loop.{Loop}
use Rattle.wires.specs.Wire.{Arrival, Put, Report, Journal, journal, silence, ◌then◌, ReportsMore, arrived}
use Rattle.serving_loop.specs.Events.{Taken, PutsItsActions, steps_in, Turn, taken_in_turn, taken_in, AreTurns}
use Rattle.serving_loop.specs.Events.{IsCutShort}
use Rattle.serving_loop.specs.InTime.{AreInTime}

-- ---- the report of a wire

-- a moment and words for each event, and its puts
abbrev pub report_of : Taken → Report
report_of x = record { arrivals = []; puts = x.puts; moments = x.input.now ∷ []; words = x.input.words ∷ [] }

-- the report of all steps
abbrev pub report_of_all : List Taken → Report
report_of_all [] = silence
report_of_all (x ∷ taken) = report_of x then report_of_all taken

-- the report of a turn
abbrev pub report_in_turn : Turn → Report
report_in_turn r = arrived r.arrival then report_of_all (taken_in_turn r)

-- the report of all turns
abbrev pub report_in : List Turn → Report
report_in [] = silence
report_in (r ∷ all_turns) = report_in_turn r then report_in all_turns

-- ---- counts

-- 1 for an event that found no memory, otherwise 0
abbrev pub lost_by : Option Outcome → ℕ
lost_by None = 1
lost_by (Some outcome) = 0

-- how many events found no memory
abbrev pub lost_in : List Taken → ℕ
lost_in [] = 0
lost_in (x ∷ taken) = lost_by x.answer + lost_in taken

-- 1 for a refused action other than an ask, otherwise 0
abbrev pub refused_by : Option SentAsk → Bool → ℕ
refused_by ask true = 0
refused_by (Some ask) false = 0
refused_by None false = 1

-- the number of refused puts, without asks
abbrev pub refused_of : List Put → ℕ
refused_of [] = 0
refused_of (p ∷ puts) = refused_by (ask_in p.action) p.sent + refused_of puts

-- the number of refused puts of these steps, without asks
abbrev pub refused_in : List Taken → ℕ
refused_in [] = 0
refused_in (x ∷ taken) = refused_of x.puts + refused_in taken

-- 1 for a refused arrival, otherwise 0
abbrev pub missed_by : Option Arrival → ℕ
missed_by None = 1
missed_by (Some arrival) = 0

-- how many arrivals the wire refused
abbrev pub missed_in : List Turn → ℕ
missed_in [] = 0
missed_in (r ∷ all_turns) = missed_by r.arrival + missed_in all_turns

-- a count at its last value stays there
abbrev pub capped : ℕ → ℕ
capped n = min n (2 ^ 64 - 1)

-- a count after a rise by `n`, up to its last value
abbrev pub Adds : ℕ → ℕ → ℕ → Type 0
Adds before n after = before ≤ 2 ^ 64 - 1 → after ≡ capped (before + n)

-- ---- what is done

-- the state of the loop: the forwarder, the wire's report with its faults, and the counts; and by
-- the names of their references, which forwarder and which wire these are
pub record Standing : Type 0 where
  pub running : Running
  pub report : Journal
  pub counts : Served
  pub of_forwarder : ℕ
  pub of_wire : ℕ

-- the state of a loop, by the report of its wire and the wire's count of faults
abbrev pub standing : {H A W Hasher : Type 0} → (W → Option Report) → (W → ℕ) → Loop H A W Hasher → Standing
standing report faults l = record {
  running = l.forwarder.now;
  report = journal (report l.wire.now) (faults l.wire.now);
  counts = l.counts;
  of_forwarder = l.forwarder.ghost_name;
  of_wire = l.wire.ghost_name;
}

-- Between two states the forwarder took these events: the steps are a run, and all their actions
-- were put.
pub record Does (before : Standing) (taken : List Taken) (after : Standing) : Type 0 where
  pub config : after.running.config ≡ before.running.config
  pub run : Run before.running.config before.running.state (steps_in taken) after.running.state
  pub puts : AllByRecursion PutsItsActions taken
  pub report : ReportsMore before.report (report_of_all taken) after.report
  pub lost : Adds before.counts.lost (lost_in taken) after.counts.lost
  pub refused_puts : Adds before.counts.refused_puts (refused_in taken) after.counts.refused_puts
  pub turns : after.counts.turns ≡ before.counts.turns
  pub refused_arrivals : after.counts.refused_arrivals ≡ before.counts.refused_arrivals
  pub same_forwarder : after.of_forwarder ≡ before.of_forwarder
  pub same_wire : after.of_wire ≡ before.of_wire

-- the work left to a forwarder
abbrev pub left : Running → ℕ
left r = left_to_do r.config r.state

-- A call of `serve` takes `wanted` whole turns, and counts them and, up to 2^64 - 1 each, lost
-- events, refused puts other than asks, and refused arrivals. If memory ran out there are fewer
-- turns, and one cut short.
abbrev pub Ends : Running → ℕ → List Turn → Result Served AllocError → Type 0
Ends before wanted all_turns (Ok counts) = (length all_turns ≡ wanted) × AreTurns before.config [] all_turns
    × (counts ≡ record {
      turns = wanted;
      lost = capped (lost_in (taken_in all_turns));
      refused_puts = capped (refused_in (taken_in all_turns));
      refused_arrivals = capped (missed_in all_turns);
    })
Ends before wanted all_turns (Err refused) = (whole : List Turn)
    × ((last : Turn) × (all_turns ≡ whole ++ last ∷ []) × (length all_turns ≤ wanted) × AreTurns before.config [] whole
    × IsCutShort (map (λ (r : Turn). r.arrival) whole) last)

-- A call of `serve` (`Ends`): its steps are a run of the forwarder, which serves truly after any
-- earlier steps; each turn ends in time. Its puts are the actions in order. The wire reports just
-- this, and all of it if the wire reported before and counted no fault.
pub record Serves (before : Running) (report_before : Journal) (wanted : ℕ) (result : Result Served AllocError)
    (after : Running) (report_after : Journal) : Type 0 where
  pub all_turns : List Turn
  pub ends : Ends before wanted all_turns result
  pub config : after.config ≡ before.config
  pub run : Run before.config before.state (steps_in (taken_in all_turns)) after.state
  pub truly : ServesOnTruly before.config before.state (steps_in (taken_in all_turns))
  pub in_time : (steps : List Step) → ComesTo before.config steps before.state
      → AreInTime before.config steps all_turns
  pub puts : AllByRecursion PutsItsActions (taken_in all_turns)
  pub report : ReportsMore report_before (report_in all_turns) report_after

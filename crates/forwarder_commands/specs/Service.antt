-- The effect and the output of the service.
use Rattle.std.specs.Prelude.{◌≡◌, ◌⊎◌, ℕ, List, [], ◌∷◌, ◌++◌, Option, Some, Ok, Err}
use Rattle.std.specs.declared.alloc.AllocError.{AllocError}
use Rattle.std.specs.Io.KnownBytes.{Appends}
use Rattle.suffix_routes.specs.Values.{Config}
use Rattle.replay_script.specs.StepTable.State.{Running}
use Rattle.wires.specs.Wire.{Journal, silence, journal}
use Rattle.serving_loop.specs.declared.counts.Served.{Served}
use Rattle.serving_loop.specs.Serving.{Serves}
use Rattle.socket_wire.specs.Seen.{SeenWire}
use Rattle.replay_script.specs.declared.fault.ReplayFault.TheVariants.{Memory}
use Rattle.forwarder_commands.specs.declared.fault.Fault.{Fault}
use Rattle.forwarder_commands.specs.declared.fault.Fault.TheVariants.{Stopped}
use Rattle.forwarder_commands.specs.Commands.{IsFaultOfStream}
use Rattle.forwarder_commands.specs.Counts.{counted_text}

-- a wire that has given and taken nothing and counted no fault, with the configured `deadline_ms`
pub record IsWireOf (config : Config) (wire : SeenWire) : Type 0 where
  pub report : wire.report ≡ silence
  pub faults : wire.faults ≡ 0
  pub deadline : wire.deadline ≡ config.limits.deadline_ms

-- `turns` turns are served, and a line with the counts of turns and lost events is appended
pub record ServesAndReports (before : Running) (report_before : Journal) (turns : ℕ) (after : Running)
    (report_after : Journal) (held held' : Option (List ℕ)) : Type 0 where
  pub counts : Served
  pub serves : Serves before report_before turns (Ok counts) after report_after
  pub reports : Appends held held' (counted_text counts.turns counts.lost ++ 10 ∷ [])

-- the report of a wire over sockets, and its count of faults
abbrev pub journal_of : SeenWire → Journal
journal_of wire = journal (Some wire.report) wire.faults

-- `turns` turns are served so over a new wire of the configuration, which gave and took what they
-- say
pub record ServesFrom (before : Running) (turns : ℕ) (held held' : Option (List ℕ)) : Type 0 where
  pub wire : SeenWire
  pub is_new : IsWireOf before.config wire
  pub after : Running
  pub wire_after : SeenWire
  pub serves : ServesAndReports before (journal_of wire) turns after (journal_of wire_after) held held'

-- memory ran out in a turn and nothing was written, or all turns were served and writing failed
abbrev pub StopsServing : Running → Journal → ℕ → Running → Journal → Option (List ℕ) → Option (List ℕ) → Fault → Type 0
StopsServing before report_before turns after report_after held held' fault =
    ((refused : AllocError) × Serves before report_before turns (Err refused) after report_after
    × (fault ≡ Stopped Memory) × (held' ≡ held))
    ⊎ ((counts : Served) × Serves before report_before turns (Ok counts) after report_after × IsFaultOfStream fault)

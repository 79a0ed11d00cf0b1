-- The exit statuses of the program.
use Rattle.std.specs.Prelude.{ℕ}
use Rattle.replay_script.specs.declared.fault.ReplayFault.TheVariants.{Config, Line, Memory, Device}
use Rattle.forwarder_commands.specs.declared.fault.Fault.{Fault}
use Rattle.forwarder_commands.specs.declared.fault.Fault.TheVariants.{Usage, Stopped}

-- the exit status of a fault
abbrev pub status_of : Fault → ℕ
status_of Usage = 1
status_of (Stopped (Config fault)) = 2
status_of (Stopped (Line line)) = 3
status_of (Stopped Memory) = 4
status_of (Stopped Device) = 5

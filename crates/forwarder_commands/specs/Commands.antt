-- The program's commands, and their faults.
use Rattle.std.specs.Prelude.{◌⊎◌, ℕ, ◌==◌, if◌then◌else◌, List, codes, Option, Some, None}
use Rattle.std.specs.Prelude.{Ok}
use Rattle.std.specs.Str.{bytes_eq}
use Rattle.suffix_routes.specs.Values.{Config as ConfigValue}
use Rattle.suffix_routes.specs.Reading.{IsReadIn}
use Rattle.replay_script.specs.Configs.{IsFaultOf, IsOfStream}
use Rattle.replay_script.specs.declared.fault.ReplayFault.{ReplayFault}
use Rattle.forwarder_commands.specs.declared.commands.Command.{Command}
use Rattle.forwarder_commands.specs.declared.commands.Command.TheVariants.{Check, Serve, Replay}
use Rattle.forwarder_commands.specs.declared.fault.Fault.{Fault}
use Rattle.forwarder_commands.specs.declared.fault.Fault.TheVariants.{Usage, Stopped}

-- the command of this first argument, if the number of arguments is right
abbrev pub command_by : List ℕ → ℕ → Option Command
command_by word count =
    if bytes_eq word (codes "check") then (if count == 2 then Some Check else None)
    else (if bytes_eq word (codes "serve") then (if count == 3 then Some Serve else None)
    else (if bytes_eq word (codes "replay") then (if count == 1 then Some Replay else None) else None))

-- some octets say this configuration
abbrev pub IsOfOctets : ConfigValue → Type 0
IsOfOctets config = (octets : List ℕ) × IsReadIn octets (Ok config)

-- a file can't be read, memory ran out, or octets are refused for this
abbrev pub IsFaultOfFile : ReplayFault → Type 0
IsFaultOfFile fault = IsOfStream fault ⊎ ((octets : List ℕ) × IsFaultOf octets fault)

-- a fault of a stream or of memory
abbrev pub IsFaultOfStream : Fault → Type 0
IsFaultOfStream Usage = ⊥
IsFaultOfStream (Stopped fault) = IsOfStream fault

-- a fault of `check`: of its file
abbrev pub IsFaultOfCheck : Fault → Type 0
IsFaultOfCheck Usage = ⊥
IsFaultOfCheck (Stopped fault) = IsFaultOfFile fault

-- a fault of `serve`: of its file, or `Usage` for its turns
abbrev pub IsFaultOfServe : Fault → Type 0
IsFaultOfServe Usage = Unit {0}
IsFaultOfServe (Stopped fault) = IsFaultOfFile fault

-- a fault of `replay`: any but `Usage`
abbrev pub IsFaultOfReplay : Fault → Type 0
IsFaultOfReplay Usage = ⊥
IsFaultOfReplay (Stopped fault) = Unit {0}

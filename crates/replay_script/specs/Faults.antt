-- How a refused configuration, and a device, stop a replay.
use Rattle.std.specs.Prelude.{ℕ, zero, suc, Result, Ok, Err}
use Rattle.std.specs.IoError.{error_kind}
use Rattle.std.specs.declared.io.Error.{Error}
use Rattle.std.specs.declared.io.ErrorKind.{ErrorKind}
use Rattle.std.specs.declared.io.ErrorKind.TheVariants.{OutOfMemory as OutOfMemoryKind}
use Rattle.std.specs.declared.io.ErrorKind.TheVariants.{Interrupted}
use Rattle.suffix_routes.specs.declared.fault.ConfigFault.{ConfigFault}
use Rattle.suffix_routes.specs.declared.fault.ConfigFault.TheVariants.{Memory as OutOfMemory}
use Rattle.replay_script.specs.declared.fault.ReplayFault.{ReplayFault}
use Rattle.replay_script.specs.declared.fault.ReplayFault.TheVariants.{Config, Device, Memory}

-- a refused configuration stops a replay; out of memory is a fault of its own
abbrev pub replay_fault : ConfigFault → ReplayFault
replay_fault OutOfMemory = Memory
replay_fault fault = Config fault

-- the fault of an error of reading or writing, by its kind: out of memory, or a device
abbrev pub device_fault : ErrorKind → ReplayFault
device_fault OutOfMemoryKind = Memory
device_fault kind = Device

-- the number of octets taken by a writer that refused, by the kind of its error: none after a
-- signal, and writing goes on; otherwise a fault
abbrev pub taken_unless : ErrorKind → Result ℕ ReplayFault
taken_unless Interrupted = Ok 0
taken_unless kind = Err (device_fault kind)

-- the number of octets of a non-empty text taken by a writer, by its answer: taking none without an
-- error is a fault
abbrev pub taken_by : Result ℕ Error → Result ℕ ReplayFault
taken_by (Ok zero) = Err Device
taken_by (Ok (suc more)) = Ok (suc more)
taken_by (Err error) = taken_unless (error_kind error)

-- Reading from the front, with the first fault.
use Rattle.std.specs.Prelude.{Bool, true, false, Result}
use Rattle.dns_name.specs.PlainValues.FirstFault as reading
pub use Rattle.dns_name.specs.PlainValues.FirstFault.{◌>>=◌, end_read}
use Rattle.dns_message.specs.declared.names.fault.Fault.{Fault}
use Rattle.dns_message.specs.declared.names.fault.Fault.TheVariants.{Memory}

-- the fault of running out of memory
abbrev pub wants_memory : Fault → Bool
wants_memory Memory = true
wants_memory fault = false

-- The failure of a call is the answer, unless memory ran out.
abbrev pub Fails : {Y : Type 0} → Fault → Result Y Fault → Type 0
Fails fault answer = reading.Fails wants_memory fault answer

-- The value of a call, seen by view, is the answer, unless memory ran out.
abbrev pub Gives : {X Y : Type 0} → (X → Y) → Result X Fault → Result Y Fault → Type 0
Gives view given answer = reading.Gives wants_memory view given answer

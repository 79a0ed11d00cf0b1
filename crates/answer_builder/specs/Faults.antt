-- The answer of a call, unless memory ran out.
use Rattle.std.specs.Prelude.{Bool, true, false, Result}
use Rattle.dns_message.specs.PlainValues.FirstFault as reading
use Rattle.answer_builder.specs.declared.fault.Fault.{Fault}
use Rattle.answer_builder.specs.declared.fault.Fault.TheVariants.{TooLarge, Memory}

-- the fault of running out of memory
abbrev pub wants_memory : Fault → Bool
wants_memory Memory = true
wants_memory TooLarge = false

-- The value of a call, seen by view, is the answer, unless memory ran out.
abbrev pub Gives : {X Y : Type 0} → (X → Y) → Result X Fault → Result Y Fault → Type 0
Gives view given answer = reading.Gives wants_memory view given answer

-- The effect of an event.
use Rattle.std.specs.Prelude.{◌≡◌, Result, IfOk, OnErr, IsOk}
use Rattle.std.specs.declared.alloc.AllocError.{AllocError}
use Rattle.step_values.specs.Values.{StepInput, Outcome}
use Rattle.step_table.specs.State.{Running}
use Rattle.step_table.specs.Row.{TakesNoMemory, effective, Row}

-- The forwarder acted on an event by the event's row of the table. If memory ran out nothing
-- changed; events without allocations never run out of memory.
pub record Acts (before : Running) (input : StepInput) (result : Result Outcome AllocError)
    (after : Running) : Type 0 where
  pub row : IfOk result (λ outcome. Row before.config before.state input outcome after.state)
  pub config : after.config ≡ before.config
  pub no_memory : TakesNoMemory before.config (effective input.now before.state) before.state input.event
      → IsOk result
  pub err : OnErr result (after ≡ before)

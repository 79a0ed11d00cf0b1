-- A forwarder with its stored history.
use Rattle.std.specs.Prelude.{List}
use Rattle.step_values.specs.Values.{Step}
use Rattle.step_table.specs.State.{Running}

-- the forwarder of now, and the steps so far, the oldest first
pub record Recording : Type 0 where
  pub running : Running
  pub steps : List Step

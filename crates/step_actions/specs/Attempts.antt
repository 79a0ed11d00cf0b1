-- The drawn identifier and path of an ask.
use Rattle.std.specs.Prelude.{ℕ, Option, Some, None}
use Rattle.outstanding.specs.declared.ask.Path.{Path}
use Rattle.step_actions.specs.declared.attempts.Drawn.{Drawn}

-- the identifier and the path, as the table has them
abbrev pub pair_of : Option Drawn → Option (ℕ × Path)
pair_of None = None
pair_of (Some d) = Some (d.id, d.path)

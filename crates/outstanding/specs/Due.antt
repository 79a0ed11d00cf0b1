-- The moments at which asks are due.
use Rattle.std.specs.Prelude.{ℕ, ◌+◌, nat_le, if◌then◌else◌, List, [], ◌∷◌, Option, Some, None}
use Rattle.outstanding.specs.declared.ask.Path.{Path}
use Rattle.outstanding.specs.Values.{Ask}

-- the moment at which an ask is due, this many milliseconds after asking, and the path
abbrev pub due_of : ℕ → Ask → ℕ × Path
due_of ask_ms ask = (ask.asked + ask_ms, ask.path)

-- the sooner of two; at equal moments the first
abbrev pub sooner : ℕ × Path → Option (ℕ × Path) → Option (ℕ × Path)
sooner first None = Some first
sooner first (Some second) = if nat_le first.0 second.0 then Some first else Some second

-- the least due moment of the asks, and the path of the ask; at equal moments of the older ask
abbrev pub next_due : ℕ → List Ask → Option (ℕ × Path)
next_due ask_ms [] = None
next_due ask_ms (ask ∷ asks) = sooner (due_of ask_ms ask) (next_due ask_ms asks)

-- The message of an ask, and its drawn path and identifier.
use Rattle.std.specs.Prelude.{◌≡◌, ℕ, ◌%◌, ◌^◌, ◌<◌, Bool, if◌then◌else◌, ◌&&◌, not, List, [], ◌∷◌, Option, Some, None}
use Rattle.std.specs.List.{list_any}
use Rattle.outstanding.specs.declared.ask.Path.{Path}
use Rattle.outstanding.specs.declared.ask.Path.TheVariants.{Udp}
use Rattle.outstanding.specs.Draws.{port_of}
use Rattle.step_values.specs.Values.{Action}
use Rattle.step_history.specs.History.{ShownAsk, closes_path}
use Rattle.outstanding.specs.Lists.{same_path}

-- an ask was listed on this path before, and these actions leave the path open
abbrev pub is_busy : Path → List ShownAsk → List Action → Bool
is_busy path asks actions = list_any (λ a. same_path a.path path) asks && not (closes_path path actions)

-- by UDP, identifier and port of the first word with a free port (RFC 5452 9.2); a port given up in
-- the step is free
abbrev pub drawn : List ℕ → List ShownAsk → List Action → Option (ℕ × ℕ)
drawn [] asks actions = None
drawn (word ∷ words) asks actions = if is_busy (Udp (port_of word)) asks actions then drawn words asks actions
    else Some (word % 65536, port_of word)

-- a word of 32 bits that draws this identifier and this port
pub record DrawsPair (id port word : ℕ) : Type 0 where
  pub small : word < 2 ^ 32
  pub identifier : word % 65536 ≡ id
  pub port_is : port_of word ≡ port

-- The parts of a script: a configuration, the line `---`, and event lines.
use Rattle.std.specs.Prelude.{◌≡◌, ℕ, ◌==◌, ◌⊎◌, ◌&&◌, not, Bool, true, List, [], ◌∷◌, ◌++◌, codes}
use Rattle.std.specs.List.{flat_map, list_all, list_any}
use Rattle.std.specs.Str.{bytes_eq}

-- the octet ends a line
abbrev pub is_feed : ℕ → Bool
is_feed octet = octet == 10

-- the octets of the separating line
abbrev pub separator : List ℕ
separator = codes "---"

-- these octets can be a line of the configuration: no line feed, and not the separating line
abbrev pub is_of_config : List ℕ → Bool
is_of_config line = not (list_any is_feed line) && not (bytes_eq line separator)

-- a line with its line feed
abbrev pub ended : List ℕ → List ℕ
ended line = line ++ 10 ∷ []

-- These lines of the configuration are before the rest.
pub record FollowsLines (script rest : List ℕ) (lines : List (List ℕ)) : Type 0 where
  pub of_config : list_all is_of_config lines ≡ true
  pub script_is : script ≡ flat_map ended lines ++ rest

-- The first separating line follows the configuration, as lines: at the end of the script, or
-- before the event lines.
pub record AreParts (script config events : List ℕ) : Type 0 where
  pub lines : List (List ℕ)
  pub config_is : config ≡ flat_map ended lines
  pub follows : FollowsLines script (separator ++ 10 ∷ events) lines
      ⊎ (FollowsLines script separator lines × (events ≡ []))

-- No line separates.
pub record HasOnePart (script : List ℕ) : Type 0 where
  pub lines : List (List ℕ)
  pub last : List ℕ
  pub last_is : is_of_config last ≡ true
  pub follows : FollowsLines script last lines

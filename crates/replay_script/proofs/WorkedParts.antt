-- The parts of worked scripts.
use Rattle.std.proofs.Common.{◌≡◌, ◌⊎◌, ℕ, List, [], ◌∷◌, ◌++◌, true, refl, inl, inr}
use Rattle.std.specs.Prelude.{codes}
use Rattle.std.specs.List.{flat_map, list_all}
use Rattle.replay_script.specs.Parts.{AreParts, HasOnePart, FollowsLines, ended, is_of_config, separator}

-- A configuration of one line, and one event line.
one_line_each : AreParts (codes "a\n---\nb") (codes "a\n") (codes "b")
one_line_each = record { lines = codes "a" ∷ []; config_is = refl; follows = inl (record { of_config = refl; script_is = refl }) }

-- The separating line alone, and with a line feed.
neither : AreParts (codes "---") [] []
neither = record { lines = []; config_is = refl; follows = inr (record { of_config = refl; script_is = refl }, refl) }

no_event_line : AreParts (codes "---\n") [] []
no_event_line = record { lines = []; config_is = refl; follows = inl (record { of_config = refl; script_is = refl }) }

-- A line that only begins with it separates nothing.
no_separator : HasOnePart (codes "----\n--")
no_separator = record { lines = codes "----" ∷ []; last = codes "--"; last_is = refl; follows = record { of_config = refl; script_is = refl } }

none_before : (lines : List (List ℕ)) → list_all is_of_config lines ≡ true → codes "---\n" ≡ flat_map ended lines → ⊥
none_before [] all e = cc
none_before ([] ∷ more) all e = cc
none_before ((a ∷ []) ∷ more) all e = cc
none_before ((a ∷ b ∷ []) ∷ more) all e = cc
none_before ((a ∷ b ∷ c ∷ []) ∷ more) all e = cc
none_before ((a ∷ b ∷ c ∷ d ∷ line) ∷ more) all e = cc

of_config : (script events : List ℕ) (lines : List (List ℕ)) → FollowsLines script (separator ++ 10 ∷ events) lines ⊎ (FollowsLines script separator lines × (events ≡ [])) → list_all is_of_config lines ≡ true
of_config script events lines (inl follows) = follows.of_config
of_config script events lines (inr follows) = follows.0.of_config

-- The first separating line counts, and no later one.
not_the_second : AreParts (codes "---\n---\n") (codes "---\n") [] → ⊥
not_the_second parts = none_before parts.lines (of_config (codes "---\n---\n") [] parts.lines parts.follows) parts.config_is

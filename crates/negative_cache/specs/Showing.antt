-- The names that a set or NODATA shows to exist: its own, and each name above (RFC 8020 2).
use Rattle.std.specs.Prelude.{ℕ, not, List, filter}
use Rattle.record_cache.specs.Values.{Held}
use Rattle.negative_cache.specs.Entries.{denies}

-- the entries without name errors that deny the name
abbrev pub shown : List (List ℕ) → ℕ → List Held → List Held
shown name class entries = filter (λ h. not (denies name class h)) entries

-- Runs of labels that begin with a pointer, and their targets.
use Rattle.std.specs.Prelude.{◌≡◌, ℕ, ◌+◌, ◌-◌, ◌<◌, ◌≤◌, List, length, slice_index}
use Rattle.dns_message.specs.Names.{target, ending, walk_in, steps_left, whole}

-- after a pointer, a run from o is read like a run from e
abbrev pub SameRun : List ℕ → ℕ → ℕ → Type 0
SameRun bytes o e = (used end : ℕ) → used ≤ 254 → ending end (walk_in (steps_left o used) bytes (whole bytes) o o used)
    ≡ ending end (walk_in (steps_left e used) bytes (whole bytes) e e used)

-- reading at o is reading at an earlier place e
pub record IsShortcut (bytes : List ℕ) (o e : ℕ) : Type 0 where
  pub back : e < o
  pub same : SameRun bytes o e

-- A pointer at a place, back to an earlier place, so that a run may begin with the pointer.
pub record LeadsBack (bytes : List ℕ) (o : ℕ) : Type 0 where
  pub inside : o + 2 ≤ length bytes
  pub pointer : 192 ≤ slice_index bytes o
  pub back : target bytes o < o

-- a number above 0 is a place plus one from which the run is read alike
abbrev pub AreShortcuts : List ℕ → List ℕ → Type 0
AreShortcuts bytes ends = (o : ℕ) → 0 < slice_index ends o → IsShortcut bytes o (slice_index ends o - 1)

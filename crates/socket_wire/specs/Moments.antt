-- Moments of a wire.
use Rattle.std.specs.Prelude.{◌≡◌, ℕ, ◌-◌, ◌/◌, ◌^◌, min, max, Bool, true, false, List, [], ◌∷◌, ◌++◌}
use Rattle.std.specs.Prelude.{Result, Ok, Err}
use Rattle.std.specs.Duration.{as_nanos}
use Rattle.std.specs.declared.io.Error.{Error}
use Rattle.std.specs.declared.time.Duration.{Duration}
use Rattle.std.specs.declared.time.Instant.{Instant}
use Rattle.system_calls.specs.Call.{Call, read_clock}

-- the moment after this time: its whole milliseconds, at most those of 64 bits
abbrev pub moment_of : Duration → ℕ
moment_of spent = min (as_nanos spent / 1_000_000) (2 ^ 64 - 1)

-- the moment by the clock's answer: the last one, if the clock failed or went back
abbrev pub moment_by : Result Duration Error → (last : ℕ) → ℕ
moment_by (Ok spent) last = max last (moment_of spent)
moment_by (Err error) last = last

-- The clock is read by one call, for the next moment.
abbrev pub ReadsClock : Instant → (last moment : ℕ) → (before after : List Call) → Type 0
ReadsClock started last moment before after =
    (answer : Result Duration Error) × (after ≡ before ++ read_clock started answer ∷ [])
    × (moment ≡ moment_by answer last)

-- The clock is read for the next moment, unless it was read for it.
abbrev pub ReadsOnce : (is_read : Bool) → Instant → (last moment : ℕ) → (before after : List Call) → Type 0
ReadsOnce true started last moment before after = (moment ≡ last) × (after ≡ before)
ReadsOnce false started last moment before after = ReadsClock started last moment before after

-- The sizes of the names of a message, in octets.
use Rattle.std.specs.Prelude.{◌≡◌, ℕ, ◌<◌, List, Result, Ok, Err, slice_index}
use Rattle.dns_name.specs.Labels.{size_of}
use Rattle.dns_message.specs.declared.names.fault.Fault.{Fault}
use Rattle.dns_message.specs.Names.{walk_in, steps_left, whole}

-- the octets of a name read, with the final zero
abbrev pub size_read : Result (List (List ℕ) × ℕ) Fault → Result ℕ Fault
size_read (Ok name) = Ok (size_of name.0)
size_read (Err fault) = Err fault

-- the octets of the name at o after labels of `used` octets, or the first fault of the whole
unfoldable pub size_after : List ℕ → ℕ → ℕ → Result ℕ Fault
size_after bytes o used = size_read (walk_in (steps_left o used) bytes (whole bytes) o o used)

-- a number above 0 is the size in octets of the name at its place
abbrev pub AreSizes : List ℕ → List ℕ → Type 0
AreSizes bytes sizes = (o : ℕ) → 0 < slice_index sizes o → size_after bytes o 0 ≡ Ok (slice_index sizes o)

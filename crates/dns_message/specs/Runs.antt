-- The labels of a name, put in order.
use Rattle.std.specs.Prelude.{◌≡◌, ℕ, ◌+◌, ◌≤◌, List, ◌++◌, length, take, Result, Ok, Err}
use Rattle.dns_name.specs.Labels.{labels_of, IsLaidOut}
use Rattle.dns_message.specs.declared.names.fault.Fault.{Fault}
use Rattle.dns_message.specs.declared.names.walk.NameCursor.{NameCursor}
use Rattle.dns_message.specs.Names.{resume}

-- the name goes on with these labels
abbrev pub with_front : List (List ℕ) → Result (List (List ℕ) × ℕ) Fault → Result (List (List ℕ) × ℕ) Fault
with_front front (Ok n) = Ok (front ++ n.0, n.1)
with_front front (Err fault) = Err fault

-- from w to v the reader takes the labels of these octets
pub record Passes (bytes octets : List ℕ) (w v : NameCursor) : Type 0 where
  pub read : resume bytes w ≡ with_front (labels_of octets) (resume bytes v)
  pub laid : IsLaidOut octets
  pub used : v.used ≡ w.used + length octets
  pub room : v.used ≤ 254
  pub stop : v.bound.stop ≤ length bytes

-- the name read ends here, with the labels in the first `count` of these octets
pub record Begins (octets : List ℕ) (count end : ℕ) (read : Result (List (List ℕ) × ℕ) Fault) : Type 0 where
  pub labels : read ≡ Ok (labels_of (take count octets), end)
  pub laid : IsLaidOut (take count octets)
  pub room : count ≤ 254

-- the octets hold the labels so far, or the fault is the same
abbrev pub ArePut : List ℕ → Result (ℕ × ℕ) Fault → Result (List (List ℕ) × ℕ) Fault → Type 0
ArePut octets (Ok put) read = Begins octets put.0 put.1 read
ArePut octets (Err fault) read = read ≡ Err fault

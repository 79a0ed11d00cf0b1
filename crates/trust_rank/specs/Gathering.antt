-- A record set, gathered in one pass over a section, with an index of its data.
use Rattle.std.specs.Prelude.{◌≡◌, ℕ, if◌then◌else◌, min, List, [], ◌∷◌, drop}
use Rattle.std.specs.List.{list_any}
use Rattle.std.specs.Ordering.{nat_cmp}
use Rattle.std.specs.Cmp.Lexicographic.{slice_cmp}
use Rattle.std.specs.BTreeSet.{BTreeSet, contains_by}
use Rattle.dns_message.specs.PlainValues.Octets.{same_octets}
use Rattle.dns_message.specs.Values.{Question, Record}
use Rattle.trust_rank.specs.Sets.{is_of, with_data, seconds_of}
use denote.Ref.{Bor}

-- the number of data compared one by one
abbrev pub few : ℕ
few = 16

-- the index has the data after the first few
abbrev pub Indexes : BTreeSet (Bor (List ℕ)) → List (List ℕ) → Type 0
Indexes index rows = (octets : List ℕ) → contains_by (λ (k : Bor (List ℕ)). slice_cmp nat_cmp octets k.now) index
    ≡ list_any (same_octets octets) (drop few rows)

-- the data so far, and the data of a record of the set
abbrev pub added : Question → List (List ℕ) → Record → List (List ℕ)
added q kept r = if is_of q r then with_data kept r.rdata else kept

-- the data of a set, and the data of all records of the set among these
abbrev pub added_all : Question → List (List ℕ) → List Record → List (List ℕ)
added_all q kept [] = kept
added_all q kept (r ∷ records) = added_all q (added q kept r) records

-- the lower lifetime, if the record belongs to the set
abbrev pub lowered_by : Question → ℕ → Record → ℕ
lowered_by q most r = if is_of q r then min most (seconds_of r.ttl) else most

-- the lifetime of a set after all these records
abbrev pub lowered_by_all : Question → ℕ → List Record → ℕ
lowered_by_all q most [] = most
lowered_by_all q most (r ∷ records) = lowered_by_all q (lowered_by q most r) records

-- Record sets: RFC 2181 5.
use Rattle.std.specs.Prelude.{ℕ, ◌^◌, Bool, if◌then◌else◌, ◌==◌, ◌&&◌, nat_le, min, List, [], ◌∷◌, ◌++◌, filter, Option}
use Rattle.std.specs.Prelude.{Some, None}
use Rattle.std.specs.List.{list_any}
use Rattle.dns_message.specs.DnsName.Labels.{lowered, same}
use Rattle.dns_message.specs.Values.{Question, Record}
use Rattle.dns_message.specs.PlainValues.Octets.{same_octets}
use Rattle.trust_rank.specs.Values.{rows, Piece}

-- the record has the question's type, class and name, letter case aside
abbrev pub is_of : Question → Record → Bool
is_of q r = (r.kind == q.kind) && (r.class == q.class) && same r.owner q.name

-- the records of a section with the question's name, type and class
abbrev pub records_for : Question → List Record → List Record
records_for q records = filter (is_of q) records

-- data already there is left out (RFC 2181 5)
abbrev pub with_data : List (List ℕ) → List ℕ → List (List ℕ)
with_data kept octets = if list_any (same_octets octets) kept then kept else kept ++ octets ∷ []

-- the data of all these records without equal data twice (RFC 2181 5)
abbrev pub with_all_data : List (List ℕ) → List Record → List (List ℕ)
with_all_data kept [] = kept
with_all_data kept (r ∷ records) = with_all_data (with_data kept r.rdata) records

-- a TTL with its top bit set counts as 0 (RFC 2181 8)
abbrev pub seconds_of : ℕ → ℕ
seconds_of ttl = if nat_le (2 ^ 31) ttl then 0 else ttl

-- the lowest TTL of all (RFC 2181 5.2), and this at most
abbrev pub lifetime_within : ℕ → List Record → ℕ
lifetime_within most [] = most
lifetime_within most (r ∷ records) = lifetime_within (min most (seconds_of r.ttl)) records

-- no piece lives longer than a week; this bound is the project's own
abbrev pub longest : ℕ
longest = 604800

-- the set of a record and the records after it: its owner is spelled as in the first
abbrev pub set_with : ℕ → ℕ → Record → List Record → Piece
set_with rank route first others = record {
  owner = first.owner;
  slot = record { key = lowered first.owner; class = first.class; kind = Some first.kind };
  body = rows (with_all_data (first.rdata ∷ []) others);
  lifetime = lifetime_within (min longest (seconds_of first.ttl)) others;
  rank = rank;
  route = route;
}

-- the set of these records, if any
abbrev pub set_of : ℕ → ℕ → List Record → Option Piece
set_of rank route [] = None
set_of rank route (first ∷ others) = Some (set_with rank route first others)

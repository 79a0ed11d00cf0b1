-- The messages in a program, and their octets (RFC 1035 4.1).
use Rattle.std.specs.Prelude.{◌≡◌, ◌<◌, ◌≤◌, [], ◌∷◌, length}
use Rattle.std.specs.List.{AllByRecursion}
use Rattle.dns_name.specs.Labels.{IsName}
use Rattle.dns_message.specs.Values.{Question, Record, Message}
use Rattle.dns_message.specs.Messages.{Spells, HasShapes}
use Rattle.dns_message.specs.Header.{FitsBits}
use Rattle.dns_message.specs.Writing.{written}

-- a name, and numbers of 16 bits
pub record IsQuestion (q : Question) : Type 0 where
  pub name : IsName q.name
  pub kind : q.kind < 65536
  pub class : q.class < 65536

-- a name, numbers of 16 bits, and a TTL of 32
pub record IsRecord (r : Record) : Type 0 where
  pub owner : IsName r.owner
  pub kind : r.kind < 65536
  pub class : r.class < 65536
  pub ttl : r.ttl < 4294967296

-- the numbers fit their fields, and the names are names
pub record IsMessage (m : Message) : Type 0 where
  pub id : m.header.id < 65536
  pub bits : FitsBits m.header
  pub questions : AllByRecursion IsQuestion m.questions
  pub answers : AllByRecursion IsRecord m.answers
  pub authority : AllByRecursion IsRecord m.authority
  pub additional : AllByRecursion IsRecord m.additional

-- the counts of the header are the lengths of the lists
abbrev pub IsCounted : Message → Type 0
IsCounted m = m.header.counts ≡ length m.questions ∷ length m.answers ∷ length m.authority ∷ length m.additional ∷ []

-- the written text of a message spells the message, if not longer than a message can be
abbrev pub IsSpelledBack : Message → Type 0
IsSpelledBack m = IsCounted m → HasShapes m → length (written m) ≤ 65535 → Spells (written m) m

-- Questions and records at a place of a message: RFC 1035 4.1.2 and 4.1.3.
use Rattle.std.specs.Prelude.{◌≡◌, ℕ, zero, suc, ◌+◌, ◌≤◌, List, [], ◌∷◌, length, Result, Ok, Err, nat_lt}
use Rattle.std.specs.Prelude.{if◌then◌else◌}
use Rattle.dns_name.specs.Labels.{size_of}
use Rattle.dns_message.specs.declared.names.fault.Fault.{Fault}
use Rattle.dns_message.specs.declared.names.fault.Fault.TheVariants.{Short}
use Rattle.dns_message.specs.Values.{Question, Record}
use Rattle.dns_message.specs.Reading.{◌>>=◌}
use Rattle.dns_message.specs.Numbers.{number16, number32}
use Rattle.dns_message.specs.Names.{NameAt, name_at}
use Rattle.dns_message.specs.Data.{DataAt, data_at}

-- ---- what they are

-- at o there is this question, and e is the place after
pub record QuestionAt (bytes : List ℕ) (o : ℕ) (question : Question) (e : ℕ) : Type 0 where
  pub after : ℕ
  pub name : NameAt bytes o o question.name after
  pub fits : size_of question.name ≤ 255
  pub there : after + 4 ≤ length bytes
  pub kind : question.kind ≡ number16 bytes after
  pub class : question.class ≡ number16 bytes (after + 2)
  pub ends : e ≡ after + 4

-- at o there is this record, and e is the place after
pub record RecordAt (bytes : List ℕ) (o : ℕ) (entry : Record) (e : ℕ) : Type 0 where
  pub after : ℕ
  pub owner : NameAt bytes o o entry.owner after
  pub fits : size_of entry.owner ≤ 255
  pub there : after + 10 ≤ length bytes
  pub kind : entry.kind ≡ number16 bytes after
  pub class : entry.class ≡ number16 bytes (after + 2)
  pub ttl : entry.ttl ≡ number32 bytes (after + 4)
  pub rdata : DataAt entry.kind bytes (after + 10) (number16 bytes (after + 8)) entry.rdata
  pub ends : e ≡ after + 10 + number16 bytes (after + 8)

-- from o on these things follow in order, and e is the place after
abbrev pub InRow : {X : Type 0} → (ℕ → X → ℕ → Type 0) → ℕ → List X → ℕ → Type 0
InRow At o [] e = e ≡ o
InRow At o (x ∷ xs) e = (next : ℕ) × At o x next × InRow At next xs e

-- ---- how they are read, with the first fault: what was read, and the place after it

-- the place after `count` octets
unfoldable pub octets_end : List ℕ → ℕ → ℕ → Result ℕ Fault
octets_end bytes o count = if nat_lt (length bytes) (o + count) then Err Short else Ok (o + count)

-- the question at a place, and the place after (RFC 1035 4.1.2)
unfoldable pub question_at : List ℕ → ℕ → Result (Question × ℕ) Fault
question_at bytes o = do
  name ← name_at bytes o
  end ← octets_end bytes name.1 4
  Ok (record { name = name.0; kind = number16 bytes name.1; class = number16 bytes (name.1 + 2) }, end)

-- the record at a place, and the place after (RFC 1035 4.1.3)
unfoldable pub record_at : List ℕ → ℕ → Result (Record × ℕ) Fault
record_at bytes o = do
  owner ← name_at bytes o
  fixed ← octets_end bytes owner.1 10
  rdata ← data_at (number16 bytes owner.1) bytes fixed (number16 bytes (owner.1 + 8))
  Ok (
    record {
      owner = owner.0;
      kind = number16 bytes owner.1;
      class = number16 bytes (owner.1 + 2);
      ttl = number32 bytes (owner.1 + 4);
      rdata = rdata.0;
    },
    rdata.1,
  )

-- a list read, with an element in front
abbrev pub with_first : {X : Type 0} → X → Result (List X × ℕ) Fault → Result (List X × ℕ) Fault
with_first first (Ok others) = Ok (first ∷ others.0, others.1)
with_first first (Err fault) = Err fault

-- this many things from o on, each read by this function
unfoldable pub counted : {X : Type 0} → (ℕ → Result (X × ℕ) Fault) → ℕ → ℕ → Result (List X × ℕ) Fault
counted read zero o = Ok ([], o)
counted read (suc n) o = read o >>= λ first. with_first first.0 (counted read n first.1)

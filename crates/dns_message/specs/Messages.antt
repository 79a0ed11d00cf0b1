-- Whole messages: RFC 1035 4.1.
use Rattle.std.specs.Prelude.{◌≡◌, ℕ, ◌<◌, ◌≤◌, List, [], ◌∷◌, ◌++◌, length, take, drop, Option, Some, None, Result, Ok}
use Rattle.std.specs.Prelude.{Err, nat_lt, ◌==◌, if◌then◌else◌, slice_index}
use Rattle.std.specs.List.{AllByRecursion}
use Rattle.dns_name.specs.Labels.{IsSame, octets_of, size_of}
use Rattle.dns_message.specs.declared.names.fault.Fault.{Fault}
use Rattle.dns_message.specs.declared.names.fault.Fault.TheVariants.{Short, NoQuestion}
use Rattle.dns_message.specs.Values.{Question, Record, Message}
use Rattle.dns_message.specs.Reading.{◌>>=◌, end_read}
use Rattle.dns_message.specs.Numbers.{number16}
use Rattle.dns_message.specs.Header.{header_of}
use Rattle.dns_message.specs.Data.{IsShaped}
use Rattle.dns_message.specs.Records.{QuestionAt, RecordAt, InRow, question_at, record_at, counted}

-- ---- what a message is

-- the header, then the counted questions and records; the rest is free
pub record Spells (bytes : List ℕ) (message : Message) : Type 0 where
  pub header : header_of bytes ≡ Some message.header
  pub counts : message.header.counts ≡ length message.questions ∷ length message.answers ∷ length message.authority
      ∷ length message.additional ∷ []
  pub questions_end : ℕ
  pub answers_end : ℕ
  pub authority_end : ℕ
  pub additional_end : ℕ
  pub questions : InRow (QuestionAt bytes) 12 message.questions questions_end
  pub answers : InRow (RecordAt bytes) questions_end message.answers answers_end
  pub authority : InRow (RecordAt bytes) answers_end message.authority authority_end
  pub additional : InRow (RecordAt bytes) authority_end message.additional additional_end

-- The octets begin with a header that counts a question or more, and this is the first.
pub record FirstQuestion (bytes : List ℕ) (question : Question) : Type 0 where
  pub header : 12 ≤ length bytes
  pub counted : 0 < number16 bytes 4
  pub e : ℕ
  pub at : QuestionAt bytes 12 question e

-- header, counted questions and counted records can be read
abbrev pub IsWhole : List ℕ → Type 0
IsWhole bytes = (message : Message) × Spells bytes message

-- the data of each record has the shape of its type
abbrev pub AreShaped : List Record → Type 0
AreShaped records = AllByRecursion (λ entry. IsShaped entry.kind entry.rdata) records

-- the data of each record has the shape of its type
pub record HasShapes (message : Message) : Type 0 where
  pub answers : AreShaped message.answers
  pub authority : AreShaped message.authority
  pub additional : AreShaped message.additional

-- ---- how it is read, with the first fault

-- the value, or the fault Short
abbrev pub or_short : {X : Type 0} → Option X → Result X Fault
or_short (Some x) = Ok x
or_short None = Err Short

-- the message, and the place after its last counted record
unfoldable pub message_at : List ℕ → Result (Message × ℕ) Fault
message_at bytes = do
  header ← or_short (header_of bytes)
  questions ← counted (question_at bytes) (slice_index header.counts 0) 12
  answers ← counted (record_at bytes) (slice_index header.counts 1) questions.1
  authority ← counted (record_at bytes) (slice_index header.counts 2) answers.1
  additional ← counted (record_at bytes) (slice_index header.counts 3) authority.1
  Ok (
    record {
      header = header;
      questions = questions.0;
      answers = answers.0;
      authority = authority.0;
      additional = additional.0;
    },
    additional.1,
  )

-- the value read, without the place after
abbrev pub read_of : {X : Type 0} → Result (X × ℕ) Fault → Result X Fault
read_of (Ok x) = Ok x.0
read_of (Err fault) = Err fault

-- the message that the octets spell, or the first fault from the front
abbrev pub message_of : List ℕ → Result Message Fault
message_of bytes = read_of (message_at bytes)

-- the first question, or the first fault of header and first question from the front
unfoldable pub first_question : List ℕ → Result Question Fault
first_question bytes =
    if nat_lt (length bytes) 12 then Err Short else (if number16 bytes 4 == 0 then Err NoQuestion
    else read_of (question_at bytes 12))

-- equal name, letter case aside, equal type and class
pub record IsSameQuestion (a b : Question) : Type 0 where
  pub name : IsSame a.name b.name
  pub kind : a.kind ≡ b.kind
  pub class : a.class ≡ b.class

-- The name is whole at o, each label after its length, and a final zero: no part is a pointer (RFC
-- 1035 3.1 and 4.1.4).
abbrev pub IsUncompressed : List ℕ → ℕ → List (List ℕ) → Type 0
IsUncompressed bytes o name = take (size_of name) (drop o bytes) ≡ octets_of name ++ 0 ∷ []

-- the question read is this question
abbrev pub QuestionIs : Result Question Fault → Question → Type 0
QuestionIs (Ok read) question = IsSameQuestion read question
QuestionIs (Err fault) question = ⊥

-- the header and the first question can be read
pub record IsViewed (bytes : List ℕ) : Type 0 where
  pub question : Question
  pub is : first_question bytes ≡ Ok question

-- and the first question ends before this place
pub record IsViewedTo (bytes : List ℕ) (end : ℕ) : Type 0 where
  pub viewed : IsViewed bytes
  pub ends : end_read (question_at bytes 12) ≡ Ok end

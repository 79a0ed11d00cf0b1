-- Messages, put together from borrowed parts.
use Rattle.std.specs.Prelude.{ℕ, List, [], ◌∷◌, map, flat_map, Option, Some, None}
use Rattle.dns_message.specs.declared.reading.header.Header.{Header}
use Rattle.dns_message.specs.Values.{Question, Record, Message}
use Rattle.dns_message.specs.declared.writing.borrowed.DataRef.{DataRef}
use Rattle.dns_message.specs.declared.writing.borrowed.DataRef.TheVariants.{Rows, Row}

-- the data of a set, a row each
abbrev pub data_of : {A : Type 0} → DataRef A → List (List ℕ)
data_of (Rows rows) = rows.now
data_of (Row row) = row.now ∷ []

-- a record of a set with this data
abbrev pub record_of : List (List ℕ) → ℕ → ℕ → ℕ → List ℕ → Record
record_of owner kind class ttl rdata = record { owner = owner; kind = kind; class = class; ttl = ttl; rdata = rdata }

-- the records of a set, a row each: RFC 2181 5
abbrev pub records_of : List (List ℕ) → ℕ → ℕ → ℕ → List (List ℕ) → List Record
records_of owner kind class ttl rows = map (record_of owner kind class ttl) rows

-- the records of sets, in order
abbrev pub records_in : List (List Record) → List Record
records_in sets = flat_map (λ records. records) sets

-- a question, if any, as a list
abbrev pub questions_of : Option Question → List Question
questions_of None = []
questions_of (Some question) = question ∷ []

-- the message with this header, this question, if any, and these sets
abbrev pub message_of : Header → Option Question → List (List Record) → List (List Record) → Message
message_of header question answers authority = record {
  header = header;
  questions = questions_of question;
  answers = records_in answers;
  authority = records_in authority;
  additional = [];
}

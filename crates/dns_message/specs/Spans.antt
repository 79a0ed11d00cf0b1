-- The places of the records of a message.
use Rattle.std.specs.Prelude.{ℕ, List, [], ◌∷◌, ◌++◌, replicate, Result, Ok, Err}
use Rattle.dns_message.specs.declared.names.fault.Fault.{Fault}
use Rattle.dns_message.specs.declared.reading.spans.Span.{Span}
use Rattle.dns_message.specs.declared.reading.spans.Left.{Left}
use Rattle.dns_message.specs.Values.{Record}
use Rattle.dns_message.specs.Reading.{end_read}
use Rattle.dns_message.specs.Numbers.{number16}
use Rattle.dns_message.specs.Records.{RecordAt, question_at, record_at, counted}

-- the sections of the remaining records: 0 for answers, 1 for authority, 2 for additional
abbrev pub sections_of : Left → List ℕ
sections_of left = replicate left.answers 0 ++ (replicate left.authority 1 ++ replicate left.additional 2)

-- From o on these are the spans of the readable records, in order; a record of each of these
-- sections is counted.
pub data SpansAt (bytes : List ℕ) : List ℕ → ℕ → List Span → Type 0 where
  all_read : {o : ℕ} → SpansAt bytes [] o []
  none_here : {o section : ℕ} {sections : List ℕ} → ((entry : Record) (e : ℕ) → RecordAt bytes o entry e → ⊥)
      → SpansAt bytes (section ∷ sections) o []
  one_here : {o section : ℕ} {sections : List ℕ} {spans : List Span} (entry : Record) (e : ℕ) → RecordAt bytes o entry e
      → SpansAt bytes sections e spans
      → SpansAt bytes (section ∷ sections) o (record { start = o; end = e; section = section } ∷ spans)

-- the span of a record, and the spans of the records after it
abbrev pub span_and_rest : ℕ → ℕ → (ℕ → List Span) → Result ℕ Fault → List Span
span_and_rest o section rest (Ok e) = record { start = o; end = e; section = section } ∷ rest e
span_and_rest o section rest (Err fault) = []

-- the spans of the records from o on, as far as they can be read
unfoldable pub spans_at : List ℕ → List ℕ → ℕ → List Span
spans_at bytes [] o = []
spans_at bytes (section ∷ sections) o = span_and_rest o section (spans_at bytes sections) (end_read (record_at bytes o))

-- the section of each counted record
abbrev pub counted_sections : List ℕ → List ℕ
counted_sections bytes = replicate (number16 bytes 6) 0 ++ (replicate (number16 bytes 8) 1
    ++ replicate (number16 bytes 10) 2)

-- the spans of the records after the questions
abbrev pub spans_from : List ℕ → Result ℕ Fault → List Span
spans_from bytes (Ok o) = spans_at bytes (counted_sections bytes) o
spans_from bytes (Err fault) = []

-- the spans of the readable records of a message; none after an unreadable question
unfoldable pub spans_of : List ℕ → List Span
spans_of bytes = spans_from bytes (end_read (counted (question_at bytes) (number16 bytes 4) 12))

-- The parts of an answer, put together from borrowed things.
use Rattle.std.specs.Prelude.{ℕ, if◌then◌else◌, nat_le, true, List, [], ◌∷◌, length, Option, Some, None}
use Rattle.dns_message.specs.Values.{Record, Message}
use Rattle.answer_builder.specs.Values.{PieceWithTtl, Sections}
use Rattle.answer_builder.specs.Answers.{authority_of, last_of, rcode_of}

-- the records of a set, if any
abbrev pub listed : Option (List Record) → List Record
listed None = []
listed (Some records) = records

-- the message with TC, and without records
abbrev pub cut_down : Message → Message
cut_down m = record {
  header = record m.header { tc = true };
  questions = m.questions;
  answers = [];
  authority = [];
  additional = [];
}

-- a text of at most `limit` octets
abbrev pub fitting : ℕ → List ℕ → Option (List ℕ)
fitting limit text = if nat_le (length text) limit then Some text else None

-- ---- an answer that ends with this piece, if any

-- the piece at the end of a chain
abbrev pub end_of : List PieceWithTtl → Option PieceWithTtl
end_of [] = None
end_of (t ∷ chain) = Some (last_of t chain)

-- the authority section after a chain with this end, if any
abbrev pub end_authority : Option PieceWithTtl → List Record
end_authority None = []
end_authority (Some t) = authority_of t

-- the response code after a chain with this end, if any
abbrev pub end_rcode : Option PieceWithTtl → ℕ
end_rcode None = 0
end_rcode (Some t) = rcode_of t.piece.body

-- with these records
abbrev pub ending : List Record → Option PieceWithTtl → Sections
ending records last = record { answers = records; authority = end_authority last; rcode = end_rcode last }

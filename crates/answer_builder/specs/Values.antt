-- Questions and answers as contracts see them.
use Rattle.std.specs.Prelude.{ℕ, Bool, List, Option}
use Rattle.dns_message.specs.Values.{Question, Record}
use Rattle.record_cache.specs.TrustRank.Values.{Piece}
use Rattle.dns_message.specs.declared.reading.header.Header.{Header}

-- the part of a request repeated in the answer: RFC 1035 4.1.1 and 4.1.2
pub record Asked : Type 0 where
  pub id : ℕ
  pub opcode : ℕ
  pub rd : Bool
  pub question : Option Question

-- a piece, and its seconds in an answer
pub record PieceWithTtl : Type 0 where
  pub piece : Piece
  pub seconds : ℕ

-- an answer's two sections and its response code
pub record Sections : Type 0 where
  pub answers : List Record
  pub authority : List Record
  pub rcode : ℕ

-- the repeated part of a request with this header and question, if any
abbrev pub asked_in : Header → Option Question → Asked
asked_in h q = record { id = h.id; opcode = h.opcode; rd = h.rd; question = q }

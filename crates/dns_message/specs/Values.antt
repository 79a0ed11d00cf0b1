-- Questions, records and messages as plain values: RFC 1035 4.1.
use Rattle.std.specs.Prelude.{ℕ, List}
use Rattle.dns_message.specs.declared.reading.header.Header.{Header}

-- name, type and class: RFC 1035 4.1.2
pub record Question : Type 0 where
  pub name : List (List ℕ)
  pub kind : ℕ
  pub class : ℕ

-- a record, with the names in its data written out in full: RFC 1035 4.1.3
pub record Record : Type 0 where
  pub owner : List (List ℕ)
  pub kind : ℕ
  pub class : ℕ
  pub ttl : ℕ
  pub rdata : List ℕ

-- the header, the questions and the records of the three sections
pub record Message : Type 0 where
  pub header : Header
  pub questions : List Question
  pub answers : List Record
  pub authority : List Record
  pub additional : List Record

-- Read values can be written.
use Rattle.std.proofs.Common.{◌≡◌, ℕ, ◌+◌, ◌<◌, ◌≤◌, List, [], ◌∷◌, length, Bool, true, false, cond, Some, None, ltb, refl, sym, subst, arith}
use Rattle.std.specs.Prelude.{slice_index}
use Rattle.std.specs.List.{AllByRecursion}
use Rattle.dns_name.specs.PlainValues.Octets.{AreOctets}
use Rattle.dns_message.specs.Numbers.{number16, number32}
use Rattle.dns_message.specs.declared.reading.header.Header.{Header}
use Rattle.dns_message.specs.Header.{FitsBits, header_in, header_of}
use Rattle.dns_message.specs.Values.{Question, Record, Message}
use Rattle.dns_message.specs.Records.{QuestionAt, RecordAt, InRow}
use Rattle.dns_message.specs.Messages.{Spells}
use Rattle.dns_message.proofs.reading.ShapeLaws.{name_is}
use Rattle.dns_message.specs.Written.{IsQuestion, IsRecord, IsMessage}

-- ---- numbers

pub number16_fits : (bytes : List ℕ) (o : ℕ) → AreOctets bytes → o + 2 ≤ length bytes → number16 bytes o < 65536
number16_fits bytes o are there =
    let high : slice_index bytes o < 256 = are o 0 (omega (arith, there)) in
    let low : slice_index bytes (o + 1) < 256 = are (o + 1) 0 (omega (arith, there)) in
    omega (arith, high, low)

number32_fits : (bytes : List ℕ) (o : ℕ) → AreOctets bytes → o + 4 ≤ length bytes → number32 bytes o < 4294967296
number32_fits bytes o are there =
    let high : number16 bytes o < 65536 = number16_fits bytes o are (omega (arith, there)) in
    let low : number16 bytes (o + 2) < 65536 = number16_fits bytes (o + 2) are (omega (arith, there)) in
    omega (arith, high, low)

-- ---- the header

record Begins (bytes : List ℕ) (header : Header) : Type 0 where
  pub read : header_in bytes ≡ header
  pub there : 12 ≤ length bytes

begins : (bytes : List ℕ) (header : Header) → header_of bytes ≡ Some header → Begins bytes header
unfolding header_of
begins bytes header is = by_test (ltb (length bytes) 12) (grind arith) is
  where
    by_test : (b : Bool) → (b ≡ false → 12 ≤ length bytes) → cond b None (Some (header_in bytes)) ≡ Some header → Begins bytes header
    by_test true there is = absurd cc
    by_test false there is = record { read = cc; there = there refl }

bits_fit : (bytes : List ℕ) → FitsBits (header_in bytes)
bits_fit bytes = record { opcode = grind arith; z = grind arith; rcode = grind arith }

-- ---- questions and records

pub standing_question_is_question : (bytes : List ℕ) (o : ℕ) (question : Question) (e : ℕ) → AreOctets bytes → QuestionAt bytes o question e → IsQuestion question
standing_question_is_question bytes o question e are at =
    let there : at.after + 4 ≤ length bytes = at.there in
    record {
      name = name_is bytes o o at.after question.name at.name at.fits;
      kind = subst (λ (k : ℕ). k < 65536) (sym at.kind) (number16_fits bytes at.after are (omega (arith, there)));
      class = subst (λ (k : ℕ). k < 65536) (sym at.class) (number16_fits bytes (at.after + 2) are (omega (arith, there)));
    }

standing_record_is_record : (bytes : List ℕ) (o : ℕ) (entry : Record) (e : ℕ) → AreOctets bytes → RecordAt bytes o entry e → IsRecord entry
standing_record_is_record bytes o entry e are at =
    let there : at.after + 10 ≤ length bytes = at.there in
    record {
      owner = name_is bytes o o at.after entry.owner at.owner at.fits;
      kind = subst (λ (k : ℕ). k < 65536) (sym at.kind) (number16_fits bytes at.after are (omega (arith, there)));
      class = subst (λ (k : ℕ). k < 65536) (sym at.class) (number16_fits bytes (at.after + 2) are (omega (arith, there)));
      ttl = subst (λ (t : ℕ). t < 4294967296) (sym at.ttl) (number32_fits bytes (at.after + 4) are (omega (arith, there)));
    }

-- a fact of each item at a place is a fact of all items in a row
each_in_row : {X : Type 0} (At : ℕ → X → ℕ → Type 0) (P : X → Type 0) → ((o : ℕ) (x : X) (e : ℕ) → At o x e → P x) → (o : ℕ) (xs : List X) (e : ℕ) → InRow At o xs e → AllByRecursion P xs
each_in_row At P one o [] e row = tt
each_in_row At P one o (x ∷ xs) e row = (one o x row.0 row.1, each_in_row At P one row.0 xs e row.2)

-- ---- the message

pub spelled_message_is_message : (bytes : List ℕ) (message : Message) → AreOctets bytes → Spells bytes message → IsMessage message
spelled_message_is_message bytes message are spelled = record {
  id = subst (λ (h : Header). h.id < 65536) header.read (number16_fits bytes 0 are (let there : 12 ≤ length bytes = header.there in omega (arith, there)));
  bits = subst FitsBits header.read (bits_fit bytes);
  questions = each_in_row (QuestionAt bytes) IsQuestion (λ o q e at. standing_question_is_question bytes o q e are at) 12 message.questions spelled.questions_end spelled.questions;
  answers = each_in_row (RecordAt bytes) IsRecord (λ o r e at. standing_record_is_record bytes o r e are at) spelled.questions_end message.answers spelled.answers_end spelled.answers;
  authority = each_in_row (RecordAt bytes) IsRecord (λ o r e at. standing_record_is_record bytes o r e are at) spelled.answers_end message.authority spelled.authority_end spelled.authority;
  additional = each_in_row (RecordAt bytes) IsRecord (λ o r e at. standing_record_is_record bytes o r e are at) spelled.authority_end message.additional spelled.additional_end spelled.additional;
}
  where
    header : Begins bytes message.header
    header = begins bytes message.header spelled.header

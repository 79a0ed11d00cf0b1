-- Texts of answers to questions with one spelling: they differ in identifier, opcode and RD alone
-- (RFC 1035 4.1.1).
use Rattle.std.specs.Prelude.{◌≡◌, ℕ, ◌<◌, ◌==◌, ◌&&◌, Bool, true, false, List, ◌++◌, drop}
use Rattle.std.specs.Prelude.{slice_index, option_map, Option, Some, None, Result, Ok, Err}
use Rattle.std.specs.List.{AllByRecursion}
use Rattle.std.specs.Str.{bytes_eq}
use Rattle.dns_name.specs.Labels.{octets_of}
use Rattle.dns_message.specs.Values.{Question}
use Rattle.dns_message.specs.Writing.{reply_front}
use Rattle.record_cache.specs.Values.{Held}
use Rattle.answer_builder.specs.declared.asked.Transport.{Transport}
use Rattle.answer_builder.specs.declared.asked.Transport.TheVariants.{Udp, Tcp}
use Rattle.answer_builder.specs.declared.fault.Fault.{Fault}
use Rattle.answer_builder.specs.Answers.{IsEarlier}
use Rattle.answer_builder.specs.Transports.{answer_of}
use Rattle.answer_builder.specs.Values.{Asked}
use Rattle.step_values.specs.declared.action.Why.{Why}
use Rattle.step_values.specs.declared.action.Why.TheVariants.{TooLarge}
use Rattle.step_values.specs.Values.{Action, send_reply}
use Rattle.step_table.specs.WaitingQuestions.Values.{Waiting}
use Rattle.step_table.specs.Steps.{gives_up}
use Rattle.step_texts.specs.declared.answers.Spelled.{Spelled}

-- the source of answers: a chain of pieces at a moment
pub record Source : Type 0 where
  pub chain : List Held
  pub moment : ℕ

-- a text, if any
abbrev pub ok_text : Result (List ℕ) Fault → Option (List ℕ)
ok_text (Ok text) = Some text
ok_text (Err fault) = None

-- the reply with this text for this reason, or TooLarge
abbrev pub sends_text : Why → Waiting → Option (List ℕ) → Action
sends_text why x (Some text) = send_reply x.client text why
sends_text why x None = gives_up TooLarge x

-- the text with this front in place of its own; TC stays
abbrev pub with_front : Asked → List ℕ → List ℕ
with_front a text = reply_front a.id a.opcode (slice_index text 2) a.rd ++ drop 3 text

-- names are equal if their octets are, letter case included
abbrev pub same_spelling : List (List ℕ) → List (List ℕ) → Bool
same_spelling a b = bytes_eq (octets_of a) (octets_of b)

-- two questions are spelled alike, letter case included
abbrev pub are_alike : Question → Question → Bool
are_alike a b = (same_spelling a.name b.name && (a.kind == b.kind)) && (a.class == b.class)

-- both go by UDP, or both over TCP
abbrev pub same_transport : Transport → Transport → Bool
same_transport Udp Udp = true
same_transport Udp Tcp = false
same_transport Tcp Udp = false
same_transport Tcp Tcp = true

-- the text is for this question over this transport
abbrev pub is_for : {A : Type 0} → Transport → Question → Spelled A → Bool
is_for t q s = same_transport s.transport t && are_alike s.question.now q

-- under the front of each request with this question, and an opcode of 4 bits, the text is the
-- request's answer over its transport
abbrev pub IsSpelled : {A : Type 0} → List Held → ℕ → Spelled A → Type 0
IsSpelled chain n s = (a : Asked) → a.opcode < 16 → a.question ≡ Some s.question.now
    → option_map (with_front a) s.text ≡ ok_text (answer_of a chain n s.transport)

-- texts of one chain, each for a spelling of the question
pub record AreSpelled {A : Type 0} (chain : List Held) (n : ℕ) (spelled : List (Spelled A)) : Type 0 where
  pub earlier : AllByRecursion (IsEarlier n) chain
  pub texts : AllByRecursion (IsSpelled chain n) spelled

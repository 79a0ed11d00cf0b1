-- A message is read exactly if the octets spell the message.
use Rattle.std.proofs.Common.{◌≡◌, ℕ, ◌+◌, ◌-◌, ◌<◌, ◌≤◌, Bool, true, false, cond, List, [], ◌∷◌, length, get_or, Option, Some, None, Result, Ok, Err, eqb, ltb, refl, sym, ap, subst, arith}
use Rattle.std.specs.Prelude.{IsOk, IfOk}
use Rattle.dns_message.specs.declared.names.fault.Fault.{Fault}
use Rattle.dns_message.specs.declared.names.fault.Fault.TheVariants.{Short, NoQuestion}
use Rattle.dns_message.specs.declared.reading.header.Header.{Header}
use Rattle.dns_message.specs.Values.{Question, Record, Message}
use Rattle.dns_message.specs.Reading.{end_read}
use Rattle.dns_message.specs.Numbers.{number16}
use Rattle.dns_message.specs.Header.{header_in, header_of}
use Rattle.dns_message.specs.Records.{QuestionAt, RecordAt, question_at, record_at, counted}
use Rattle.dns_message.specs.Messages.{Spells, FirstQuestion, IsWhole, IsViewed, IsViewedTo, first_question, or_short, read_of, message_at, message_of}
use Rattle.dns_name.specs.Labels.{lowered}
use Rattle.dns_message.specs.Names.{name_at, keyed}
use Rattle.dns_message.proofs.names.NameLaws.{name_complete}
use Rattle.dns_message.proofs.reading.SpellLaws.{read_as, read_first, steps, question_sound, question_complete, record_sound, record_complete, counted_sound, counted_complete}

pub header_is : (bytes : List ℕ) (header : Header) → header_of bytes ≡ Some header → header_in bytes ≡ header
unfolding header_of
header_is bytes header is = by_test (ltb (length bytes) 12) is
  where
    by_test : (b : Bool) → cond b None (Some (header_in bytes)) ≡ Some header → header_in bytes ≡ header
    by_test true is = absurd cc
    by_test false is = cc

header_read : (read : Option Header) (header : Header) → or_short read ≡ Ok header → read ≡ Some header
header_read (Some h) header is = cc
header_read None header is = absurd cc

-- the four counts are in the octets
counts_are : (bytes : List ℕ) (header : Header) → header_in bytes ≡ header
    → header.counts ≡ get_or header.counts 0 0 ∷ get_or header.counts 1 0 ∷ get_or header.counts 2 0 ∷ get_or header.counts 3 0 ∷ []
counts_are bytes header is =
    let P : Header → Type 0 = λ h. h.counts ≡ get_or h.counts 0 0 ∷ get_or h.counts 1 0 ∷ get_or h.counts 2 0 ∷ get_or h.counts 3 0 ∷ [] in
    subst P is refl

abbrev message_with : Header → List Question → List Record → List Record → List Record → Message
message_with header questions answers authority additional = record { header = header; questions = questions; answers = answers; authority = authority; additional = additional }

pub message_sound : (bytes : List ℕ) (message : Message) (e : ℕ) → message_at bytes ≡ read_as message e → Spells bytes message
unfolding message_at
message_sound bytes message e is =
    let header = steps (or_short (header_of bytes)) _ (message, e) is in
    let questions = steps (counted (question_at bytes) (get_or header.value.counts 0 0) 12) _ (message, e) header.rest in
    let answers = steps (counted (record_at bytes) (get_or header.value.counts 1 0) questions.value.1) _ (message, e) questions.rest in
    let authority = steps (counted (record_at bytes) (get_or header.value.counts 2 0) answers.value.1) _ (message, e) answers.rest in
    let additional = steps (counted (record_at bytes) (get_or header.value.counts 3 0) authority.value.1) _ (message, e) authority.rest in
    let here = header_read (header_of bytes) header.value header.first in
    let q = counted_sound (question_at bytes) (QuestionAt bytes) (λ o x f. question_sound bytes o x f) (get_or header.value.counts 0 0) 12 questions.value.0 questions.value.1 questions.first in
    let a = counted_sound (record_at bytes) (RecordAt bytes) (λ o x f. record_sound bytes o x f) (get_or header.value.counts 1 0) questions.value.1 answers.value.0 answers.value.1 answers.first in
    let n = counted_sound (record_at bytes) (RecordAt bytes) (λ o x f. record_sound bytes o x f) (get_or header.value.counts 2 0) answers.value.1 authority.value.0 authority.value.1 authority.first in
    let r = counted_sound (record_at bytes) (RecordAt bytes) (λ o x f. record_sound bytes o x f) (get_or header.value.counts 3 0) authority.value.1 additional.value.0 additional.value.1 additional.first in
    let counts = counts_are bytes header.value (header_is bytes header.value here) in
    let whole : Spells bytes (message_with header.value questions.value.0 answers.value.0 authority.value.0 additional.value.0) =
    record {
      header = here;
      counts = rw (q.1, a.1, n.1, r.1) counts;
      questions_end = questions.value.1;
      answers_end = answers.value.1;
      authority_end = authority.value.1;
      additional_end = additional.value.1;
      questions = q.0;
      answers = a.0;
      authority = n.0;
      additional = r.0;
    } in
    let P : Message → Type 0 = λ m. Spells bytes m in
    subst P (read_first (message_with header.value questions.value.0 answers.value.0 authority.value.0 additional.value.0) message additional.value.1 e additional.rest) whole

count_at : (counts : List ℕ) (a b c d : ℕ) → counts ≡ a ∷ b ∷ c ∷ d ∷ [] → (get_or counts 0 0 ≡ a) × (get_or counts 1 0 ≡ b) × (get_or counts 2 0 ≡ c) × (get_or counts 3 0 ≡ d)
count_at counts a b c d is = rw is (refl, refl, refl, refl)

pub message_complete : (bytes : List ℕ) (message : Message) (spelled : Spells bytes message) → message_at bytes ≡ read_as message spelled.additional_end
unfolding message_at
message_complete bytes message s =
    let counts = count_at message.header.counts (length message.questions) (length message.answers) (length message.authority) (length message.additional) s.counts in
    let q = counted_complete (question_at bytes) (QuestionAt bytes) (λ o x f. question_complete bytes o x f) (get_or message.header.counts 0 0) 12 message.questions s.questions_end s.questions (sym counts.0) in
    let a = counted_complete (record_at bytes) (RecordAt bytes) (λ o x f. record_complete bytes o x f) (get_or message.header.counts 1 0) s.questions_end message.answers s.answers_end s.answers (sym counts.1) in
    let n = counted_complete (record_at bytes) (RecordAt bytes) (λ o x f. record_complete bytes o x f) (get_or message.header.counts 2 0) s.answers_end message.authority s.authority_end s.authority (sym counts.2) in
    let r = counted_complete (record_at bytes) (RecordAt bytes) (λ o x f. record_complete bytes o x f) (get_or message.header.counts 3 0) s.authority_end message.additional s.additional_end s.additional (sym counts.3) in
    rw (s.header, q, a, n, r) refl

-- ---- the calls' answers about the message

pub of_spelled : (bytes : List ℕ) (message : Message) → Spells bytes message → message_of bytes ≡ Ok message
of_spelled bytes message s = ap read_of (message_complete bytes message s)

pub spelled_by : (bytes : List ℕ) (message : Message) → message_of bytes ≡ Ok message → Spells bytes message
spelled_by bytes message is = by_read (message_at bytes) (λ e here. message_sound bytes message e here) is
  where
    by_read : (r : Result (Message × ℕ) Fault) → ((e : ℕ) → r ≡ read_as message e → Spells bytes message) → read_of r ≡ Ok message → Spells bytes message
    by_read (Ok x) sound is = let same : x.0 ≡ message = cc in sound x.1 (ap (λ (m : Message). read_as m x.1) same)
    by_read (Err f) sound is = absurd cc

pub one_message : (bytes : List ℕ) (a b : Message) → Spells bytes a → Spells bytes b → a ≡ b
one_message bytes a b s t =
    let first = of_spelled bytes a s in
    let second = of_spelled bytes b t in
    cc

pub whole_where_read : (bytes : List ℕ) → IsOk (end_read (message_at bytes)) → IsWhole bytes
whole_where_read bytes is = by_read (message_at bytes) (λ m e here. message_sound bytes m e here) is
  where
    by_read : (r : Result (Message × ℕ) Fault) → ((m : Message) (e : ℕ) → r ≡ read_as m e → Spells bytes m) → IsOk (end_read r) → IsWhole bytes
    by_read (Ok x) sound is = (x.0, sound x.0 x.1 refl)
    by_read (Err f) sound is = absurd cc

pub read_where_whole : (bytes : List ℕ) → IsWhole bytes → IsOk (end_read (message_at bytes))
read_where_whole bytes whole = rw (message_complete bytes whole.0 whole.1) refl

-- ---- the first question

record QuestionRead (bytes : List ℕ) (r : Result (Question × ℕ) Fault) (question : Question) : Type 0 where
  e : ℕ
  read : r ≡ read_as question e

question_read : (bytes : List ℕ) (r : Result (Question × ℕ) Fault) (question : Question) → read_of r ≡ Ok question → QuestionRead bytes r question
question_read bytes (Ok x) question is = let same : x.0 ≡ question = cc in record { e = x.1; read = ap (λ (q : Question). read_as q x.1) same }
question_read bytes (Err f) question is = absurd cc

pub first_sound : (bytes : List ℕ) (question : Question) → first_question bytes ≡ Ok question → FirstQuestion bytes question
unfolding first_question
first_sound bytes question is = by_length (ltb (length bytes) 12) (grind arith) is
  where
    counted_by : (b : Bool) → 12 ≤ length bytes → (b ≡ false → 0 < number16 bytes 4) → cond b (Err NoQuestion) (read_of (question_at bytes 12)) ≡ Ok question → FirstQuestion bytes question
    counted_by true le some is = absurd cc
    counted_by false le some is =
        let read = question_read bytes (question_at bytes 12) question is in
        record { header = le; counted = some refl; e = read.e; at = question_sound bytes 12 question read.e read.read }

    by_length : (b : Bool) → (b ≡ false → 12 ≤ length bytes) → cond b (Err Short) (cond (eqb (number16 bytes 4) 0) (Err NoQuestion) (read_of (question_at bytes 12))) ≡ Ok question → FirstQuestion bytes question
    by_length true le is = absurd cc
    by_length false le is = counted_by (eqb (number16 bytes 4) 0) (le refl) (grind arith) is

pub first_complete : (bytes : List ℕ) (question : Question) → FirstQuestion bytes question → first_question bytes ≡ Ok question
unfolding first_question
first_complete bytes question first =
    let there = first.header in
    let some = first.counted in
    let read = ap read_of (question_complete bytes 12 question first.e first.at) in
    grind (arith, there, some, read)

-- the octets before the end of the first question
pub record Asked (bytes : List ℕ) (end : ℕ) : Type 0 where
  pub back : 4 ≤ end
  pub there : end ≤ length bytes
  pub kind : IfOk (first_question bytes) (λ question. number16 bytes (end - 4) ≡ question.kind)
  pub class : IfOk (first_question bytes) (λ question. number16 bytes (end - 2) ≡ question.class)
  pub name : IfOk (first_question bytes) (λ question. name_at bytes 12 ≡ Ok (question.name, end - 4))

pub asked : (bytes : List ℕ) (end : ℕ) → IsViewedTo bytes end → Asked bytes end
asked bytes end view =
    let v = view.viewed in
    let first = first_sound bytes v.question v.is in
    let at = first.at in
    let read = ap end_read (question_complete bytes 12 v.question first.e at) in
    let ends = view.ends in
    let same : first.e ≡ end = cc in
    let after : end - 4 ≡ at.after = omega (arith, at.ends, same) in
    let next : end - 2 ≡ at.after + 2 = omega (arith, at.ends, same) in
    record {
      back = omega (arith, at.ends, same);
      there = omega (arith, at.ends, same, at.there);
      kind = rw v.is (rw after (sym at.kind));
      class = rw v.is (rw next (sym at.class));
      name = rw v.is (rw after (name_complete bytes 12 v.question.name at.after at.name at.fits));
    }

first_keyed : (bytes : List ℕ) (view : IsViewed bytes) → keyed (name_at bytes 12) ≡ Ok (lowered view.question.name)
first_keyed bytes view =
    let at = (first_sound bytes view.question view.is).at in
    ap keyed (name_complete bytes 12 view.question.name at.after at.name at.fits)

-- the key of the first question's name is returned
pub key_found : (bytes : List ℕ) (end : ℕ) (key : List (List ℕ)) → IsViewedTo bytes end → keyed (name_at bytes 12) ≡ Ok key → IfOk (first_question bytes) (λ question. key ≡ lowered question.name)
key_found bytes end key view is =
    let found = first_keyed bytes view.viewed in
    let same : key ≡ lowered view.viewed.question.name = cc in
    rw view.viewed.is same

pub key_never_lost : (bytes : List ℕ) (end : ℕ) (fault : Fault) → IsViewedTo bytes end → keyed (name_at bytes 12) ≡ Err fault → ⊥
key_never_lost bytes end fault view is =
    let found = first_keyed bytes view.viewed in
    cc

-- A message's spans are its records' spans.
use Rattle.std.proofs.Common.{◌≡◌, ℕ, ◌+◌, ◌<◌, List, [], ◌∷◌, ◌++◌, length, replicate, length-append, Result, Ok, Err, refl, sym, ap, subst, ◌∙◌, arith}
use Rattle.std.specs.Prelude.{IsOk}
use Rattle.std.proofs.lemmas.List.{length-replicate}
use Rattle.dns_message.specs.declared.names.fault.Fault.{Fault}
use Rattle.dns_message.specs.declared.reading.spans.Span.{Span}
use Rattle.dns_message.specs.declared.reading.spans.Left.{Left}
use Rattle.dns_message.specs.Values.{Question, Record}
use Rattle.dns_message.specs.Reading.{end_read}
use Rattle.dns_message.specs.Numbers.{number16}
use Rattle.dns_message.specs.Records.{QuestionAt, RecordAt, InRow, question_at, record_at, counted}
use Rattle.dns_message.specs.Spans.{SpansAt, all_read, none_here, one_here, span_and_rest, sections_of, spans_at, counted_sections, spans_from, spans_of}
use Rattle.dns_message.proofs.reading.SpellLaws.{read_as, question_sound, question_complete, record_sound, record_complete, counted_sound, counted_complete}

abbrev span : ℕ → ℕ → ℕ → Span
span o e section = record { start = o; end = e; section = section }

-- ---- spans one by one

pub none_counted : (bytes : List ℕ) (o : ℕ) → length (spans_at bytes [] o) ≡ 0
unfolding spans_at
none_counted bytes o = refl

pub none_counted_here : (bytes : List ℕ) (o section : ℕ) (sections : List ℕ) (fault : Fault) → end_read (record_at bytes o) ≡ Err fault → length (spans_at bytes (section ∷ sections) o) ≡ 0
unfolding spans_at
none_counted_here bytes o section sections fault is = rw is refl

pub one_here_first : (bytes : List ℕ) (o e section : ℕ) (sections : List ℕ) → end_read (record_at bytes o) ≡ Ok e → spans_at bytes (section ∷ sections) o ≡ span o e section ∷ spans_at bytes sections e
unfolding spans_at
one_here_first bytes o e section sections is = rw is refl

pub one_counted_here : (bytes : List ℕ) (o e section : ℕ) (sections : List ℕ) → end_read (record_at bytes o) ≡ Ok e → length (spans_at bytes (section ∷ sections) o) ≡ 1 + length (spans_at bytes sections e)
one_counted_here bytes o e section sections is = omega (arith, ap length (one_here_first bytes o e section sections is))

some_by : (bytes : List ℕ) (o section : ℕ) (sections : List ℕ) (r : Result (Record × ℕ) Fault) → 0 < length (span_and_rest o section (spans_at bytes sections) (end_read r)) → IsOk r
some_by bytes o section sections (Ok x) some = refl
some_by bytes o section sections (Err fault) some = absurd (omega (arith, some))

-- a record at the beginning of a span is readable
pub first_readable : (bytes : List ℕ) (o section : ℕ) (sections : List ℕ) → 0 < length (spans_at bytes (section ∷ sections) o) → IsOk (record_at bytes o)
unfolding spans_at
first_readable bytes o section sections some = some_by bytes o section sections (record_at bytes o) some

pub sections_counted : (left : Left) → length (sections_of left) ≡ left.answers + (left.authority + left.additional)
sections_counted left =
    let (answers, authority, additional) : List ℕ × List ℕ × List ℕ = (replicate left.answers 0, replicate left.authority 1, replicate left.additional 2) in
    omega (arith, length-append answers (authority ++ additional), length-append authority additional, length-replicate {A = ℕ} left.answers 0, length-replicate {A = ℕ} left.authority 1, length-replicate {A = ℕ} left.additional 2)

-- ---- the spans are the records'

sound_by : (bytes : List ℕ) (o section : ℕ) (sections : List ℕ) → ((e : ℕ) → SpansAt bytes sections e (spans_at bytes sections e)) → (r : Result (Record × ℕ) Fault) → record_at bytes o ≡ r
    → SpansAt bytes (section ∷ sections) o (span_and_rest o section (spans_at bytes sections) (end_read r))
sound_by bytes o section sections rest (Ok x) is = one_here x.0 x.1 (record_sound bytes o x.0 x.1 is) (rest x.1)
sound_by bytes o section sections rest (Err f) is =
    none_here (λ entry e at. let there = record_complete bytes o entry e at in absurd cc)

spans_sound : (bytes : List ℕ) (sections : List ℕ) (o : ℕ) → SpansAt bytes sections o (spans_at bytes sections o)
unfolding spans_at
spans_sound bytes [] o = all_read
spans_sound bytes (section ∷ sections) o = sound_by bytes o section sections (λ e. spans_sound bytes sections e) (record_at bytes o) refl

none_by : (bytes : List ℕ) (o section : ℕ) (sections : List ℕ) → ((entry : Record) (e : ℕ) → RecordAt bytes o entry e → ⊥) → (r : Result (Record × ℕ) Fault) → record_at bytes o ≡ r
    → [] ≡ span_and_rest o section (spans_at bytes sections) (end_read r)
none_by bytes o section sections never (Ok x) is = absurd (never x.0 x.1 (record_sound bytes o x.0 x.1 is))
none_by bytes o section sections never (Err f) is = refl

spans_unique : (bytes : List ℕ) (sections : List ℕ) (o : ℕ) (spans : List Span) → SpansAt bytes sections o spans → spans ≡ spans_at bytes sections o
unfolding spans_at
spans_unique bytes [] o [] all_read = refl
spans_unique bytes [] o (x ∷ xs) at = elim at [ ]
spans_unique bytes (section ∷ sections) o [] (none_here never) = none_by bytes o section sections never (record_at bytes o) refl
spans_unique bytes (section ∷ sections) o (x ∷ xs) (one_here entry e at rest) =
    rw (record_complete bytes o entry e at) (ap (λ (spans : List Span). span o e section ∷ spans) (spans_unique bytes sections e xs rest))

questions_read : (bytes : List ℕ) (questions : List Question) (o : ℕ) → InRow (QuestionAt bytes) 12 questions o → length questions ≡ number16 bytes 4 → counted (question_at bytes) (number16 bytes 4) 12 ≡ read_as questions o
questions_read bytes questions o row len = counted_complete (question_at bytes) (QuestionAt bytes) (λ p x e. question_complete bytes p x e) (number16 bytes 4) 12 questions o row len

spans_here : (bytes : List ℕ) (questions : List Question) (o : ℕ) → InRow (QuestionAt bytes) 12 questions o → length questions ≡ number16 bytes 4 → spans_of bytes ≡ spans_at bytes (counted_sections bytes) o
unfolding spans_of
spans_here bytes questions o row len = rw (questions_read bytes questions o row len) refl

pub are_spans : (bytes : List ℕ) (questions : List Question) (o : ℕ) (spans : List Span) → InRow (QuestionAt bytes) 12 questions o → length questions ≡ number16 bytes 4
    → spans ≡ spans_of bytes → SpansAt bytes (counted_sections bytes) o spans
are_spans bytes questions o spans row len is =
    let P : List Span → Type 0 = λ s. SpansAt bytes (counted_sections bytes) o s in
    subst P (sym (is ∙ spans_here bytes questions o row len)) (spans_sound bytes (counted_sections bytes) o)

pub spans_are : (bytes : List ℕ) (questions : List Question) (o : ℕ) (spans : List Span) → InRow (QuestionAt bytes) 12 questions o → length questions ≡ number16 bytes 4
    → SpansAt bytes (counted_sections bytes) o spans → spans ≡ spans_of bytes
spans_are bytes questions o spans row len at = spans_unique bytes (counted_sections bytes) o spans at ∙ sym (spans_here bytes questions o row len)

abbrev Never : List ℕ → Type 0
Never bytes = (questions : List Question) (o : ℕ) → InRow (QuestionAt bytes) 12 questions o → length questions ≡ number16 bytes 4 → ⊥

no_spans_by : (bytes : List ℕ) → Never bytes → (r : Result (List Question × ℕ) Fault) → counted (question_at bytes) (number16 bytes 4) 12 ≡ r → spans_from bytes (end_read r) ≡ []
no_spans_by bytes never (Ok x) is =
    let q = counted_sound (question_at bytes) (QuestionAt bytes) (λ p y e. question_sound bytes p y e) (number16 bytes 4) 12 x.0 x.1 is in
    absurd (never x.0 x.1 q.0 q.1)
no_spans_by bytes never (Err f) is = refl

pub no_spans : (bytes : List ℕ) → Never bytes → spans_of bytes ≡ []
unfolding spans_of
no_spans bytes never = no_spans_by bytes never (counted (question_at bytes) (number16 bytes 4) 12) refl

-- The parts of a message as a whole.
use Rattle.std.proofs.Common.{◌≡◌, ℕ, ◌-◌, ◌≤◌, List, length, Result, Ok, Err, refl, sym, ◌∙◌, arith}
use Rattle.std.specs.Prelude.{IsOk}
use Rattle.dns_message.specs.declared.names.fault.Fault.{Fault}
use Rattle.dns_message.specs.Values.{Question}
use Rattle.dns_message.specs.Reading.{◌>>=◌, end_read}
use Rattle.dns_message.specs.Numbers.{number16}
use Rattle.dns_message.specs.Header.{header_in, header_of}
use Rattle.dns_message.specs.Records.{question_at, record_at, counted}
use Rattle.dns_message.specs.Messages.{or_short, read_of, message_at, first_question, IsViewed, IsViewedTo}
use Rattle.dns_message.proofs.reading.Counting.{skip_more}
use Rattle.dns_message.proofs.reading.RecordLaws.{behind_bind}

pub question_read : (bytes : List ℕ) (o e : ℕ) → end_read (question_at bytes o) ≡ Ok e → IsOk (read_of (question_at bytes o))
question_read bytes o e is = by_read (question_at bytes o) is
  where
    by_read : (r : Result (Question × ℕ) Fault) → end_read r ≡ Ok e → IsOk (read_of r)
    by_read (Ok x) is = refl
    by_read (Err f) is = absurd cc

pub question_fault : (bytes : List ℕ) (o : ℕ) (fault : Fault) → end_read (question_at bytes o) ≡ Err fault → read_of (question_at bytes o) ≡ Err fault
question_fault bytes o fault is = by_read (question_at bytes o) is
  where
    by_read : (r : Result (Question × ℕ) Fault) → end_read r ≡ Err fault → read_of r ≡ Err fault
    by_read (Ok x) is = absurd cc
    by_read (Err f) is = let e : f ≡ fault = cc in cc

-- ---- a message ends with its last counted record

header_there : (bytes : List ℕ) → 12 ≤ length bytes → or_short (header_of bytes) ≡ Ok (header_in bytes)
unfolding header_of
header_there bytes le = grind arith

just : {X : Type 0} (r : Result (X × ℕ) Fault) → (end_read r >>= λ e. Ok e) ≡ end_read r
just (Ok x) = refl
just (Err f) = refl

pub message_behind : (bytes : List ℕ) → 12 ≤ length bytes
    → end_read (message_at bytes) ≡ (end_read (counted (question_at bytes) (number16 bytes 4) 12)
    >>= λ questions. end_read (counted (record_at bytes) (number16 bytes 6) questions)
    >>= λ answers. end_read (counted (record_at bytes) (number16 bytes 8) answers)
    >>= λ authority. end_read (counted (record_at bytes) (number16 bytes 10) authority))
unfolding message_at
message_behind bytes le =
    rw (header_there bytes le)
    (behind_bind (counted (question_at bytes) (number16 bytes 4) 12) _ _ (λ questions.
    behind_bind (counted (record_at bytes) (number16 bytes 6) questions.1) _ _ (λ answers.
    behind_bind (counted (record_at bytes) (number16 bytes 8) answers.1) _ _ (λ authority.
    behind_bind (counted (record_at bytes) (number16 bytes 10) authority.1) _ (λ e. Ok e) (λ additional. refl) ∙ just (counted (record_at bytes) (number16 bytes 10) authority.1)))))

pub viewed_long : (bytes : List ℕ) → IsViewed bytes → 12 ≤ length bytes
unfolding first_question
viewed_long bytes v = let is = v.is in grind (arith, is)

pub viewed_counts : (bytes : List ℕ) → IsViewed bytes → 1 ≤ number16 bytes 4
unfolding first_question
viewed_counts bytes v = let is = v.is in grind (arith, is)

-- all further questions begin at the first question's end
pub others_behind : (bytes : List ℕ) (end : ℕ) → IsViewedTo bytes end
    → end_read (counted (question_at bytes) (number16 bytes 4 - 1) end) ≡ end_read (counted (question_at bytes) (number16 bytes 4) 12)
others_behind bytes end view =
    let all : number16 bytes 4 - 0 ≡ number16 bytes 4 = omega arith in
    sym (rw all at (skip_more (question_at bytes) (number16 bytes 4) 0 12 end (viewed_counts bytes view.viewed) view.ends))

-- The verdict by the parts of the octets.
use Rattle.std.proofs.Common.{◌≡◌, ℕ, List, Bool, true, false, cond, refl, sym, ap, ◌∙◌, subst, Option, None}
use Rattle.std.specs.Prelude.{◌==◌, ◌||◌, IsOk, Result, Ok, Err, slice_index}
use Rattle.std.proofs.lemmas.Bool.{and_right, cond-true, cond-false, eq-eqb}
use Rattle.dns_message.specs.declared.names.fault.Fault.{Fault}
use Rattle.dns_message.specs.Values.{Question, Message}
use Rattle.dns_message.specs.declared.reading.header.Header.{Header}
use Rattle.dns_message.specs.Header.{header_in}
use Rattle.dns_message.specs.Messages.{first_question, message_of, QuestionIs, IsWhole}
use Rattle.dns_message.proofs.CallerLemmas.{same_question_decides, spelled_message_is_read, message_read_is_spelled}
use Rattle.outstanding.specs.SuffixRoutes.declared.peer.Peer.{Peer}
use Rattle.reply_match.specs.declared.verdict.Verdict.{Verdict}
use Rattle.reply_match.specs.declared.verdict.Verdict.TheVariants.{Stranger, Truncated, Failed, Malformed, Whole}
use Rattle.dns_message.specs.Questions.{same_question, question_read, one_question}
use Rattle.reply_match.specs.Questions.{asks_this}
use Rattle.outstanding.specs.Values.{Ask}
use Rattle.reply_match.specs.Verdicts.{is_reply, matches, judged_whole, judge}
use Rattle.reply_match.specs.Laws.{StrangersDoNotMatch, WholeIsRead}

-- the test of the first question
pub told_question : (r : Bool) (q : Question) (read : Result Question Fault) → (r ≡ true → QuestionIs read q) × (QuestionIs read q → r ≡ true) → r ≡ asks_this q (question_read read)
told_question true q (Ok other) tells = sym ((same_question_decides other q).1 (tells.0 refl))
told_question true q (Err fault) tells = absurd (tells.0 refl)
told_question false q (Err fault) tells = refl
told_question false q (Ok other) tells = by (same_question other q) refl
  where
    by : (v : Bool) → same_question other q ≡ v → false ≡ v
    by true e = tells.1 ((same_question_decides other q).0 e)
    by false e = refl

counted_one : (octets : List ℕ) → slice_index (header_in octets).counts 0 ≡ 1 → one_question octets ≡ question_read (first_question octets)
counted_one octets e = cond-true (slice_index (header_in octets).counts 0 == 1) _ _ (eq-eqb (slice_index (header_in octets).counts 0) 1 e)

-- the test of the only question, if the header counts one
pub told_only : (r : Bool) (q : Question) (octets message : List ℕ) (h : Header) → h ≡ header_in octets → message ≡ octets → slice_index h.counts 0 ≡ 1
    → (r ≡ true → QuestionIs (first_question message) q) × (QuestionIs (first_question message) q → r ≡ true) → r ≡ asks_this q (one_question octets)
told_only r q octets message h header_is message_is one tells =
    told_question r q (first_question octets) (subst (λ (o : List ℕ). (r ≡ true → QuestionIs (first_question o) q) × (QuestionIs (first_question o) q → r ≡ true)) message_is tells)
    ∙ ap (asks_this q) (sym (counted_one octets (ap (λ (x : Header). slice_index x.counts 0) (sym header_is) ∙ one)))

abbrev nothing : Option Question
nothing = None

always_none : (b : Bool) → cond b nothing nothing ≡ nothing
always_none true = refl
always_none false = refl

-- no first question, no match
pub unread_is_stranger : (a : Ask) (from : Peer) (octets : List ℕ) (fault : Fault) → first_question octets ≡ Err fault → judge a from octets ≡ Stranger
unread_is_stranger a from octets fault e = cond-false (matches a from octets) _ _ (and_right (is_reply a from octets) (asks_this a.question (one_question octets)) (ap (asks_this a.question) none))
  where
    none : one_question octets ≡ None
    none = ap (λ r. cond (slice_index (header_in octets).counts 0 == 1) (question_read r) None) e ∙ always_none (slice_index (header_in octets).counts 0 == 1)

-- ---- whole or not

pub whole_told : (octets : List ℕ) → IsWhole octets → Whole ≡ judged_whole (message_of octets)
whole_told octets whole = sym (ap judged_whole (spelled_message_is_read octets whole.0 whole.1))

pub malformed_told : (octets : List ℕ) → (IsWhole octets → ⊥) → Malformed ≡ judged_whole (message_of octets)
malformed_told octets none = by (message_of octets) refl
  where
    by : (r : Result Message Fault) → message_of octets ≡ r → Malformed ≡ judged_whole r
    by (Ok m) e = absurd (none (m, message_read_is_spelled octets m e))
    by (Err fault) e = refl

-- ---- the meaning of each verdict

judged_whole-stranger : (r : Result Message Fault) → judged_whole r ≡ Stranger → ⊥
judged_whole-stranger (Ok m) e = absurd (cc)
judged_whole-stranger (Err fault) e = absurd (cc)

judged_whole-whole : (r : Result Message Fault) → judged_whole r ≡ Whole → IsOk r
judged_whole-whole (Ok m) e = refl
judged_whole-whole (Err fault) e = absurd (cc)

stranger_only : (m t r : Bool) (w : Verdict) (code : ℕ) → (w ≡ Stranger → ⊥) → cond m (cond t Truncated (cond r w (Failed code))) Stranger ≡ Stranger → m ≡ false
stranger_only true true r w code not_w e = absurd (cc)
stranger_only true false true w code not_w e = absurd (not_w e)
stranger_only true false false w code not_w e = absurd (cc)
stranger_only false t r w code not_w e = refl

whole_only : (m t r : Bool) (w : Verdict) (code : ℕ) → cond m (cond t Truncated (cond r w (Failed code))) Stranger ≡ Whole → w ≡ Whole
whole_only true true r w code e = absurd (cc)
whole_only true false true w code e = e
whole_only true false false w code e = absurd (cc)
whole_only false t r w code e = absurd (cc)

pub strangers : StrangersDoNotMatch
strangers ask from octets = (
  stranger_only (matches ask from octets) (header_in octets).tc (((header_in octets).rcode == 0) || ((header_in octets).rcode == 3)) (judged_whole (message_of octets)) (header_in octets).rcode
      (judged_whole-stranger (message_of octets)),
  λ none. cond-false (matches ask from octets) _ _ none,
)

question_read_where_whole : (ask : Ask) (from : Peer) (octets : List ℕ) (r : Result Question Fault) → first_question octets ≡ r → judge ask from octets ≡ Whole → IsOk r
question_read_where_whole ask from octets (Ok question) is whole = refl
question_read_where_whole ask from octets (Err fault) is whole = let bad : Stranger ≡ Whole = sym (unread_is_stranger ask from octets fault is) ∙ whole in absurd (cc)

pub whole_read : WholeIsRead
whole_read ask from octets whole = (
  question_read_where_whole ask from octets (first_question octets) refl whole,
  judged_whole-whole (message_of octets) (whole_only (matches ask from octets) (header_in octets).tc (((header_in octets).rcode == 0) || ((header_in octets).rcode == 3)) (judged_whole (message_of octets))
      (header_in octets).rcode whole),
)

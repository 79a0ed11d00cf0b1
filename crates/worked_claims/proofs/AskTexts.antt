-- The fields `question` and `reads` of `Tried` never fail alone: whatever the identifier of an ask,
-- each field follows from the other.
use Rattle.std.proofs.Common.{◌≡◌, ℕ, ◌/◌, ◌%◌, List, [], ◌∷◌, Some, Ok, Err, sym, ap, ◌∙◌, subst, arith}
use Rattle.std.specs.Prelude.{Result}
use Rattle.dns_message.specs.declared.names.fault.Fault.{Fault}
use Rattle.dns_message.specs.Messages.{first_question}
use Rattle.dns_message.specs.Questions.{one_question, question_read}
use Rattle.dns_message.specs.Values.{Question}
use Rattle.dns_message.specs.Writing.{◌▹◌, as_is, each, name_text, octets16, written}
use Rattle.dns_message.specs.Written.{IsQuestion}
use Rattle.dns_message.proofs.CallerLemmas.{first_question_read_stands, standing_name_is_name}
use Rattle.outstanding.specs.Draws.{ask_message}
use Rattle.step_history.specs.History.{Reads}
use Rattle.theorem_use.proofs.TheoremSound.AskText.{ask_reads}
use Rattle.worked_claims.proofs.Brought.{question_is}

-- ---- two octets have 16 bits of a number

high_octet : (n : ℕ) → n % 65536 / 256 % 256 ≡ n / 256 % 256
high_octet n = omega arith

low_octet : (n : ℕ) → n % 65536 % 256 ≡ n % 256
low_octet n = omega arith

same_octets : (n : ℕ) → octets16 (n % 65536) ≡ octets16 n
same_octets n = λ i. high_octet n i ∷ low_octet n i ∷ []

-- the question with its type and class cut to 16 bits
abbrev cut : Question → Question
cut q = record { name = q.name; kind = q.kind % 65536; class = q.class % 65536 }

-- an ask's text with these octets of identifier, type and class
abbrev text_by : List ℕ → List (List ℕ) → List ℕ → List ℕ → List ℕ
text_by id name kind class =
    ((as_is id ▹ as_is (octets16 256) ▹ as_is (octets16 1) ▹ as_is (octets16 0) ▹ as_is (octets16 0)
    ▹ as_is (octets16 0) ▹ (name_text name ▹ as_is kind ▹ as_is class ▹ as_is [])
    ▹ as_is [] ▹ as_is [] ▹ as_is []) [] 0).octets

-- a text has 16 bits of identifier, type and class, and no more
text_of_small_id : (id : ℕ) (q : Question) → written (ask_message (id % 65536) q) ≡ written (ask_message id q)
unfolding written ◌▹◌ each
text_of_small_id id q = λ i. text_by (same_octets id i) q.name (octets16 q.kind) (octets16 q.class)

text_of_cut : (id : ℕ) (q : Question) → written (ask_message (id % 65536) (cut q)) ≡ written (ask_message id q)
unfolding written ◌▹◌ each
text_of_cut id q = λ i. text_by (same_octets id i) q.name (same_octets q.kind i) (same_octets q.class i)

-- ---- the text of a question reads as the question

pub reads_follows : (id : ℕ) (q : Question) → IsQuestion q → Reads (written (ask_message id q)) q
reads_follows id q question =
    subst (λ (octets : List ℕ). Reads octets q) (text_of_small_id id q)
    (ask_reads (id % 65536) q question (omega arith)).0

-- ---- a question read from its text has a name, and numbers of 16 bits

read_first : (r : Result Question Fault) (q : Question) → question_read r ≡ Some q → r ≡ Ok q
read_first (Ok read) q is = cc
read_first (Err fault) q is = absurd cc

-- the text counts a single question
first_is : (id : ℕ) (q : Question) → Reads (written (ask_message id q)) q
    → first_question (written (ask_message id q)) ≡ Ok q
unfolding written ◌▹◌ each
first_is id q reads = read_first (first_question (written (ask_message id q))) q reads

cut_is_question : (id : ℕ) (q : Question) → Reads (written (ask_message id q)) q → IsQuestion (cut q)
cut_is_question id q reads =
    let first = first_question_read_stands (written (ask_message id q)) q (first_is id q reads) in
    record {
      name = standing_name_is_name (written (ask_message id q)) 12 12 first.at.after q.name first.at.name first.at.fits;
      kind = omega arith;
      class = omega arith;
    }

pub question_follows : (id : ℕ) (q : Question) → Reads (written (ask_message id q)) q → IsQuestion q
question_follows id q reads =
    let question : IsQuestion (cut q) = cut_is_question id q reads in
    let cut_reads : Reads (written (ask_message (id % 65536) (cut q))) (cut q) =
    (ask_reads (id % 65536) (cut q) question (omega arith)).0 in
    let same : q ≡ cut q = question_is q (cut q) (sym reads ∙ sym (ap one_question (text_of_cut id q)) ∙ cut_reads) in
    subst IsQuestion (sym same) question

-- The text of a query has room.
use Rattle.std.proofs.Common.{◌≡◌, ℕ, List, [], length, sym, ap, subst, ◌∙◌, Some}
use Rattle.std.specs.Prelude.{nat_lt, Ok, Err}
use Rattle.std.proofs.lemmas.Bool.{cond-false, le-ltb}
use mir.Syntax.{erased}
use mir.Val.{Val}
use denote.Laws.{Is}
use Rattle.dns_name.specs.Labels.{IsName}
use Rattle.dns_message.specs.Borrowed.{message_of}
use Rattle.dns_message.specs.declared.names.fault.Fault.TheVariants.{TooLarge}
use Rattle.dns_message.specs.declared.reading.header.Header.{Header}
use Rattle.dns_message.specs.Values.{Question, Message}
use Rattle.dns_message.specs.contracts.reading.question_ref.QuestionRef.{the_row as question_row}
use Rattle.dns_message.specs.Writing.{written, written_within}
use Rattle.dns_message.proofs.CallerLemmas.{bare_message_is_short}
use Rattle.step_values.specs.Outstanding.Draws.{ask_message}

-- owning a `QuestionRef` of this question implies this about the machine values
abbrev pub IsQuestion : Question → List Val → Type 0
IsQuestion = Is (question_row (record { mir = erased; lft = [] }))

-- so the question's name is a name
pub question_is_named : (q : Question) (values : List Val) → IsQuestion q values → IsName q.name
question_is_named q values owned = subst IsName (ap (λ (x : Question). x.name) owned.0.1.0) owned.0.1.1.name

abbrev asking : Header → Question → Message
asking h q = message_of h (Some q) [] []

-- a header and a question have 271 octets at most
fits : (h : Header) (q : Question) → IsName q.name → written_within 271 (asking h q) ≡ Ok (written (asking h q))
unfolding written_within
fits h q named = cond-false (nat_lt 271 (length (written (asking h q)))) _ _ (le-ltb 271 (length (written (asking h q))) (bare_message_is_short h (Some q) named))

-- so they are not refused
pub not_refused : (h : Header) (q : Question) → IsName q.name → written_within 271 (asking h q) ≡ Err TooLarge → ⊥
not_refused h q named refused = let bad : Ok (written (asking h q)) ≡ Err TooLarge = sym (fits h q named) ∙ refused in cc

-- and the text is the query's
pub query_given : (h : Header) (id : ℕ) (q asked : Question) (text : List ℕ) → IsName q.name → ((x : Question) → h ≡ (ask_message id x).header) → q ≡ asked
    → written_within 271 (asking h q) ≡ Ok text → text ≡ written (ask_message id asked)
query_given h id q asked text named header same given =
    let is : Ok (written (asking h q)) ≡ Ok text = sym (fits h q named) ∙ given in
    let first : text ≡ written (asking h q) = cc in
    first ∙ (λ i. written (asking (header q i) (same i)))

-- Each reply fits the client's transport.
use Rattle.std.proofs.Common.{◌≡◌, ℕ, ◌≤◌, Bool, true, false, cond, List, [], ◌∷◌, ◌++◌, length, Option, Some}
use Rattle.std.proofs.Common.{None, refl, sym, subst, arith}
use Rattle.std.specs.Prelude.{nat_le}
use Rattle.std.specs.Option.{IfSome}
use Rattle.std.proofs.lemmas.Bool.{leb-true}
use Rattle.dns_name.specs.Labels.{IsName}
use Rattle.dns_message.specs.Header.{header_in}
use Rattle.dns_message.specs.Values.{Question}
use Rattle.dns_message.specs.Writing.{written}
use Rattle.dns_message.proofs.CallerLemmas.{bare_message_is_short}
use Rattle.answer_builder.specs.Values.{Asked, Sections, asked_in}
use Rattle.answer_builder.specs.Answers.{sections_of, answer_message, bare}
use Rattle.step_values.specs.declared.event.Client.{Client}
use Rattle.step_values.specs.declared.event.Client.TheVariants.{Udp, Tcp}
use Rattle.step_values.specs.declared.action.Why.{Why}
use Rattle.step_values.specs.declared.action.Why.TheVariants.{Answered, BadFormat, BadOpcode, NotServed, NoRoute}
use Rattle.step_values.specs.declared.action.Why.TheVariants.{QuestionsFull, InquiriesFull, NoPort, Exhausted, Deadline}
use Rattle.step_values.specs.declared.action.Why.TheVariants.{ChainLong, TooLarge, Stale, LocalDenied}
use Rattle.step_values.specs.Requests.{rcode_of_why}
use Rattle.step_history.specs.History.{moment_at, Reads}
use Rattle.step_history.specs.Replies.{full_text, short_text, stale_sections, denied_sections, sized_for, FitsTransport}
use Rattle.step_history.specs.Replies.{failure_text}
use Rattle.read_answers.specs.Read.{FitsIn}
use Rattle.read_answers.specs.Laws.{RepliesFit}

-- a message without records has at most 271 octets
bare_short : (a : Asked) (cut : Bool) (code : ℕ) → IfSome a.question (λ q. IsName q.name)
    → length (written (answer_message a cut (bare code))) ≤ 271
bare_short a cut code name = bare_message_is_short (answer_message a cut (bare code)).header a.question name

few_fit : (client : Client) (octets : List ℕ) → length octets ≤ 271 → FitsIn client octets
few_fit (Udp peer) octets few = omega (arith, few)
few_fit (Tcp conn) octets few = omega (arith, few)

sized_fits : (client : Client) (a : Asked) (s : Sections) (octets : List ℕ) → IfSome a.question (λ q. IsName q.name)
    → octets ≡ sized_for client (full_text a s) (short_text a s) → FitsTransport client octets → FitsIn client octets
sized_fits (Tcp conn) a s octets name text fits = fits
sized_fits (Udp peer) a s octets name text fits =
    subst (λ (x : List ℕ). length x ≤ 512) (sym text) (by (nat_le (length (full_text a s)) 512) refl)
  where
    by : (b : Bool) → nat_le (length (full_text a s)) 512 ≡ b → length (cond b (full_text a s) (short_text a s)) ≤ 512
    by true few = leb-true (length (full_text a s)) 512 few
    by false many = let short = bare_short a true s.rcode name in omega (arith, short)

-- a failure with this question, if any
failure_fits : (client : Client) (request octets : List ℕ) (o : Option Question) (why : Why)
    → IfSome o (λ q. IsName q.name) → octets ≡ failure_text (asked_in (header_in request) o) why
    → FitsIn client octets
failure_fits client request octets o why name text = subst (FitsIn client) (sym text)
    (few_fit client (failure_text (asked_in (header_in request) o) why)
    (bare_short (asked_in (header_in request) o) false (rcode_of_why why) name))

-- a failure with the question
repeated_fits : (client : Client) (request octets : List ℕ) (why : Why)
    → ((q : Question) → Reads request q → IsName q.name)
    → (q : Question) × Reads request q × (octets ≡ failure_text (asked_in (header_in request) (Some q)) why)
    → FitsIn client octets
repeated_fits client request octets why names e =
    failure_fits client request octets (Some e.0) why (names e.0 e.1) e.2

pub replies_fit : RepliesFit
replies_fit l client request octets waiting Answered r names =
    sized_fits client (asked_in (header_in request) (Some r.question))
    (sections_of (moment_at l.now) (r.answers.aliases ++ r.answers.end ∷ [])) octets (names r.question r.reads)
    r.answers.text r.answers.fits
replies_fit l client request octets waiting Stale r names =
    sized_fits client (asked_in (header_in request) (Some r.tries.question))
    (stale_sections (moment_at l.now) r.tries.aliases r.answers.found r.answers.end) octets
    (names r.tries.question r.tries.reads) r.answers.text r.answers.fits
replies_fit l client request octets waiting LocalDenied r names =
    sized_fits client (asked_in (header_in request) (Some r.question))
    (denied_sections (moment_at l.now) r.answers.aliases) octets (names r.question r.reads)
    r.answers.text r.answers.fits
replies_fit l client request octets waiting BadFormat r names =
    failure_fits client request octets None BadFormat tt r.0
replies_fit l client request octets waiting BadOpcode r names =
    failure_fits client request octets None BadOpcode tt r.0
replies_fit l client request octets waiting NotServed r names =
    repeated_fits client request octets NotServed names r.0
replies_fit l client request octets waiting NoRoute r names =
    repeated_fits client request octets NoRoute names r.0
replies_fit l client request octets waiting QuestionsFull r names =
    repeated_fits client request octets QuestionsFull names r.0
replies_fit l client request octets waiting InquiriesFull r names =
    repeated_fits client request octets InquiriesFull names r.0
replies_fit l client request octets waiting NoPort r names =
    repeated_fits client request octets NoPort names r.0
replies_fit l client request octets waiting Exhausted r names =
    repeated_fits client request octets Exhausted names r.0
replies_fit l client request octets waiting Deadline r names =
    repeated_fits client request octets Deadline names r.0
replies_fit l client request octets waiting ChainLong r names =
    repeated_fits client request octets ChainLong names r.0
replies_fit l client request octets waiting TooLarge r names =
    repeated_fits client request octets TooLarge names r.0

-- The message of a failure has the response code of the reason.
use Rattle.std.proofs.Common.{◌≡◌, ℕ, ◌<◌, ◌≤◌, List, [], ◌∷◌, length, Option, Some, None, refl, sym, subst, arith}
use Rattle.std.specs.List.{AllByRecursion}
use Rattle.std.specs.Option.{IfSome}
use Rattle.dns_name.specs.Labels.{IsName}
use Rattle.dns_message.specs.Header.{header_in}
use Rattle.dns_message.specs.Values.{Question, Message}
use Rattle.dns_message.specs.Messages.{Spells}
use Rattle.dns_message.specs.Writing.{written}
use Rattle.dns_message.specs.Written.{IsQuestion}
use Rattle.dns_message.specs.Borrowed.{questions_of}
use Rattle.dns_message.proofs.CallerLemmas.{written_message_is_spelled, bare_message_is_short}
use Rattle.answer_builder.specs.Values.{Asked, asked_in}
use Rattle.answer_builder.specs.Answers.{error_response}
use Rattle.step_values.specs.declared.action.Why.{Why}
use Rattle.step_values.specs.declared.action.Why.TheVariants.{Answered, BadFormat, BadOpcode, NotServed, NoRoute}
use Rattle.step_values.specs.declared.action.Why.TheVariants.{QuestionsFull, InquiriesFull, NoPort, Exhausted, Deadline}
use Rattle.step_values.specs.declared.action.Why.TheVariants.{ChainLong, TooLarge, Stale, LocalDenied}
use Rattle.step_values.specs.Requests.{rcode_of_why}
use Rattle.step_history.specs.Replies.{failure_text}
use Rattle.read_answers.specs.Read.{AreReadAs, IsCodeOf, Repeats, ShowsFailure}
use Rattle.read_answers.specs.Laws.{FailuresAreRead}

name_is : (o : Option Question) → IfSome o IsQuestion → IfSome o (λ q. IsName q.name)
name_is None can = tt
name_is (Some q) can = can.name

all_are : (o : Option Question) → IfSome o IsQuestion → AllByRecursion IsQuestion (questions_of o)
all_are None can = tt
all_are (Some q) can = (can, tt)

-- the text of a failure is read as the failure
failure_spelled : (a : Asked) (code : ℕ) → a.id < 65536 → a.opcode < 16 → IfSome a.question IsQuestion → code < 16
    → Spells (written (error_response a code)) (error_response a code)
failure_spelled a code id opcode can low = written_message_is_spelled (error_response a code) (record {
  id = id;
  bits = record { opcode = opcode; z = omega arith; rcode = low };
  questions = all_are a.question can;
  answers = tt;
  authority = tt;
  additional = tt;
}) refl (record { answers = tt; authority = tt; additional = tt })
    (let short : length (written (error_response a code)) ≤ 271 =
    bare_message_is_short (error_response a code).header a.question (name_is a.question can) in omega (arith, short))

opcode_fits : (request : List ℕ) → (header_in request).opcode < 16
opcode_fits request = omega arith

-- a failure with this question, if any, and the reason's response code
failure_shown : (request octets : List ℕ) (why : Why) (o : Option Question) → (header_in request).id < 65536
    → IfSome o IsQuestion → octets ≡ failure_text (asked_in (header_in request) o) why
    → Repeats why request (questions_of o) → IsCodeOf why (rcode_of_why why) → rcode_of_why why < 16
    → AreReadAs octets (ShowsFailure request why)
failure_shown request octets why o id can text repeats code low =
    let a : Asked = asked_in (header_in request) o in
    let own : Message = error_response a (rcode_of_why why) in
    record {
      message = own;
      spells = subst (λ (x : List ℕ). Spells x own) (sym text)
          (failure_spelled a (rcode_of_why why) id (opcode_fits request) can low);
      shows = record {
        questions = questions_of o;
        repeats = repeats;
        response = record {
          id = refl;
          qr = refl;
          opcode = refl;
          aa = refl;
          tc = refl;
          rd = refl;
          ra = refl;
          z = refl;
          question = refl;
          additional = refl;
        };
        rcode = code;
        answers = refl;
        authority = refl;
      };
    }

-- a failure with the question
repeated : (request octets : List ℕ) (why : Why) (q : Question) → (header_in request).id < 65536 → IsQuestion q
    → octets ≡ failure_text (asked_in (header_in request) (Some q)) why → Repeats why request (q ∷ [])
    → IsCodeOf why (rcode_of_why why) → rcode_of_why why < 16 → AreReadAs octets (ShowsFailure request why)
repeated request octets why q = failure_shown request octets why (Some q)

pub failures_are_read : FailuresAreRead
failures_are_read l client request octets waiting BadFormat e cause id can =
    failure_shown request octets BadFormat None id tt e refl refl (omega arith)
failures_are_read l client request octets waiting BadOpcode e cause id can =
    failure_shown request octets BadOpcode None id tt e refl refl (omega arith)
failures_are_read l client request octets waiting NotServed e cause id can =
    repeated request octets NotServed e.0 id (can e.0 e.1) e.2 (e.0, e.1, refl) refl (omega arith)
failures_are_read l client request octets waiting NoRoute e cause id can =
    repeated request octets NoRoute e.0 id (can e.0 e.1) e.2 (e.0, e.1, refl) refl (omega arith)
failures_are_read l client request octets waiting QuestionsFull e cause id can =
    repeated request octets QuestionsFull e.0 id (can e.0 e.1) e.2 (e.0, e.1, refl) refl (omega arith)
failures_are_read l client request octets waiting InquiriesFull e cause id can =
    repeated request octets InquiriesFull e.0 id (can e.0 e.1) e.2 (e.0, e.1, refl) refl (omega arith)
failures_are_read l client request octets waiting NoPort e cause id can =
    repeated request octets NoPort e.0 id (can e.0 e.1) e.2 (e.0, e.1, refl) refl (omega arith)
failures_are_read l client request octets waiting Exhausted e cause id can =
    repeated request octets Exhausted e.0 id (can e.0 e.1) e.2 (e.0, e.1, refl) refl (omega arith)
failures_are_read l client request octets waiting Deadline e cause id can =
    repeated request octets Deadline e.0 id (can e.0 e.1) e.2 (e.0, e.1, refl) refl (omega arith)
failures_are_read l client request octets waiting ChainLong e cause id can =
    repeated request octets ChainLong e.0 id (can e.0 e.1) e.2 (e.0, e.1, refl) refl (omega arith)
failures_are_read l client request octets waiting TooLarge e cause id can =
    repeated request octets TooLarge e.0 id (can e.0 e.1) e.2 (e.0, e.1, refl) refl (omega arith)
failures_are_read l client request octets waiting Answered e cause id can = absurd cause
failures_are_read l client request octets waiting Stale e cause id can = absurd cause
failures_are_read l client request octets waiting LocalDenied e cause id can = absurd cause

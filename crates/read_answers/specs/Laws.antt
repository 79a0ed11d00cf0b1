-- Replies and asks are read as their claims say.
use Rattle.std.specs.Prelude.{ℕ, ◌<◌, List, [], ◌∷◌, ◌++◌, Some}
use Rattle.std.specs.List.{AllByRecursion}
use Rattle.dns_name.specs.Labels.{IsName}
use Rattle.dns_message.specs.declared.reading.header.Header.{Header}
use Rattle.dns_message.specs.Header.{header_in}
use Rattle.dns_message.specs.Values.{Question, Message}
use Rattle.dns_message.specs.Messages.{Spells}
use Rattle.dns_message.specs.Written.{IsQuestion}
use Rattle.suffix_routes.specs.Values.{Config}
use Rattle.answer_builder.specs.Values.{asked_in}
use Rattle.step_values.specs.declared.event.Client.{Client}
use Rattle.step_values.specs.declared.action.Why.{Why}
use Rattle.step_values.specs.Values.{SentAsk, Step}
use Rattle.step_history.specs.History.{Look, moment_at, Reads}
use Rattle.step_history.specs.Answers.{Answers}
use Rattle.step_history.specs.Local.{LocalAnswers}
use Rattle.step_history.specs.Causes.{Cause}
use Rattle.step_history.specs.Sound.{RightStaleAnswer, IsErrorResponse, RightReply}
use Rattle.step_history.specs.Asked.{AsksRight}
use Rattle.theorem_cache.specs.Kept.{CanBeWrittenAt, CanBeRepeated}
use Rattle.read_answers.specs.Read.{ShowsChain, ShowsStaleChain, ShowsDenial, IsWholeOrCut, FitsIn, ShowsFailure}
use Rattle.read_answers.specs.Read.{AreReadAs, IsQueryFor}

-- The question and the pieces of a right answer can be written: names are names, numbers fit their
-- fields, record data has its shapes. Then the answer is read as its chain, whole, or cut.
abbrev pub AnswersAreRead : Type 0
AnswersAreRead = (l : Look) (client : Client) (h : Header) (q : Question) (octets : List ℕ)
    (a : Answers l client h q octets) → CanBeRepeated (asked_in h (Some q)) q
    → AllByRecursion (CanBeWrittenAt (moment_at l.now)) (a.aliases ++ a.end ∷ []) → (m : Message) → Spells octets m
    → IsWholeOrCut client h q (ShowsChain h q a.aliases a.end (moment_at l.now)) m

-- So is a right answer with expired data (RFC 8767).
abbrev pub StaleAnswersAreRead : Type 0
StaleAnswersAreRead = (l : Look) (client : Client) (request octets : List ℕ)
    (r : RightStaleAnswer l client request octets)
    → CanBeRepeated (asked_in (header_in request) (Some r.tries.question)) r.tries.question
    → AllByRecursion (CanBeWrittenAt (moment_at l.now)) (r.tries.aliases ++ (r.answers.found ++ r.answers.end ∷ []))
    → (m : Message) → Spells octets m
    → IsWholeOrCut client (header_in request) r.tries.question (ShowsStaleChain (header_in request) r.tries.question
    r.tries.aliases r.answers.found r.answers.end (moment_at l.now)) m

-- So is a right denial by a route, with its aliases and no SOA.
abbrev pub LocalAnswersAreRead : Type 0
LocalAnswersAreRead = (l : Look) (client : Client) (h : Header) (q : Question) (octets : List ℕ)
    (a : LocalAnswers l client h q octets) → CanBeRepeated (asked_in h (Some q)) q
    → AllByRecursion (CanBeWrittenAt (moment_at l.now)) a.aliases → (m : Message) → Spells octets m
    → IsWholeOrCut client h q (ShowsDenial h q a.aliases (moment_at l.now)) m

-- A right failure is read as a failure for its reason, if the request's identifier fits its field,
-- and its question, if any, can be written.
abbrev pub FailuresAreRead : Type 0
FailuresAreRead = (l : Look) (client : Client) (request octets : List ℕ) (waiting : ℕ) (why : Why)
    → IsErrorResponse request why octets → Cause l client request waiting why → (header_in request).id < 65536
    → ((q : Question) → Reads request q → IsQuestion q) → AreReadAs octets (ShowsFailure request why)

-- A right ask is read as a query for its question, with the drawn identifier, if the question can
-- be written.
abbrev pub AsksAreRead : Type 0
AsksAreRead = (c : Config) (s : Step) (past : List Step) (a : SentAsk) (r : AsksRight c s past a)
    → IsQuestion r.question → AreReadAs a.octets (IsQueryFor r.id r.question)

-- A right reply fits its transport, if the question's name is a name.
abbrev pub RepliesFit : Type 0
RepliesFit = (l : Look) (client : Client) (request octets : List ℕ) (waiting : ℕ) (why : Why)
    → RightReply l client request waiting why octets → ((q : Question) → Reads request q → IsName q.name)
    → FitsIn client octets

-- The rows of a client's message.
use Rattle.std.specs.Prelude.{ℕ, if◌then◌else◌, ◌==◌, nat_le, List, [], length, Option, Some, None}
use Rattle.dns_message.specs.declared.reading.header.Header.{Header}
use Rattle.dns_message.specs.Header.{header_in}
use Rattle.dns_message.specs.Values.{Question}
use Rattle.dns_message.specs.Questions.{one_question, is_unserved}
use Rattle.suffix_routes.specs.Values.{Config}
use Rattle.outstanding.specs.Lists.{of_question}
use Rattle.outstanding.specs.Values.{Ask}
use Rattle.trust_rank.specs.Walks.{most_aliases}
use Rattle.alias_chains.specs.RecordCache.Values.{Held}
use Rattle.step_values.specs.declared.event.Client.{Client}
use Rattle.step_values.specs.declared.action.Why.TheVariants.{BadFormat, BadOpcode, NotServed, NoRoute, QuestionsFull}
use Rattle.step_values.specs.declared.action.Why.TheVariants.{InquiriesFull, NoPort, ChainLong}
use Rattle.step_values.specs.Values.{Action}
use Rattle.suffix_routes.specs.Serving.{serving_route_of, is_local}
use Rattle.step_values.specs.Requests.{is_taken}
use Rattle.alias_chains.specs.AnswerBuilder.Values.{asked_in}
use Rattle.step_table.specs.State.{State, StepStart, from_state}
use Rattle.waiting_questions.specs.Values.{Waiting}
use Rattle.step_table.specs.Attempts.{first_ask_for}
use Rattle.alias_chains.specs.LookingUp.{LookUpEnd, ends, too_long, missed, LookUp, look_up}
use Rattle.step_table.specs.Steps.{Done, Fate, gets, waits, with_promoted, idle_step, reply_step, taking_step, failed}
use Rattle.step_table.specs.Steps.{gives_up, answered, denied_locally}

-- ---- a question after its look-up

-- the question now wants the missed question of its look-up
abbrev pub waits_with : Waiting → LookUp → Waiting
waits_with x l = record x { held = l.held; wanted = l.wanted }

-- the reply for a name without a serving route: if the configuration denies the name, the denial
-- after the aliases before it, otherwise NoRoute
abbrev pub without_server : Config → ℕ → Waiting → List Held → List (List ℕ) → Action
without_server c n x aliases name = if is_local c name then denied_locally n x aliases else gives_up NoRoute x

-- the missed question is asked if a route serves its name
abbrev pub fate_missed : Config → ℕ → Waiting → LookUp → Option ℕ → Fate
fate_missed c n x l None = gets (without_server c n x l.held l.wanted.name)
fate_missed c n x l (Some route) = waits (waits_with x l)

-- the fate of a question by the end of its look-up
abbrev pub fate_at : Config → ℕ → Waiting → LookUp → LookUpEnd → Fate
fate_at c n x l (ends e) = gets (answered n x l.held e)
fate_at c n x l too_long = gets (gives_up ChainLong x)
fate_at c n x l missed = fate_missed c n x l (serving_route_of c l.wanted.name)

-- the fate of a question by its look-up
abbrev pub fate_of : Config → ℕ → Waiting → LookUp → Fate
fate_of c n x l = fate_at c n x l l.met

-- ---- a client's question

-- the question waits for its new ask; without an ask no port was free, and the question fails
abbrev pub row_of_opening : ℕ → Waiting → State → Option Ask → Done
row_of_opening n x s None = reply_step n (gives_up NoPort x) s
row_of_opening n x s (Some a) = taking_step n x (Some a) s

-- no ask of the wanted question is listed
abbrev pub row_of_new_inquiry : StepStart → Waiting → Done
row_of_new_inquiry t x =
    if nat_le t.config.limits.inquiries (length t.state.asks)
    then reply_step t.moment (gives_up InquiriesFull x) t.state
    else row_of_opening t.moment x t.state (first_ask_for t x.wanted)

-- the question joins the ask of an equal question, or begins an inquiry
abbrev pub row_of_inquiry : StepStart → Waiting → Option Ask → Done
row_of_inquiry t x None = row_of_new_inquiry t x
row_of_inquiry t x (Some a) = taking_step t.moment x None t.state

-- the cache has no answer
abbrev pub row_of_waiting : StepStart → Waiting → Done
row_of_waiting t x =
    if nat_le t.config.limits.questions (length t.state.waiting)
    then reply_step t.moment (gives_up QuestionsFull x) t.state
    else row_of_inquiry t x (of_question x.wanted t.state.asks)

-- the reply goes out at once, or the question waits
abbrev pub row_of_fate : StepStart → Fate → Done
row_of_fate t (gets reply) = reply_step t.moment reply t.state
row_of_fate t (waits x) = row_of_waiting t x

-- the entries used by the look-up are promoted, whatever the fate of the question
abbrev pub row_of_look_up : StepStart → Waiting → LookUp → Done
row_of_look_up t x l = row_of_fate (from_state (with_promoted l.used t.state) t) (fate_of t.config t.moment x l)

-- a question by the serving route of its name: without a route the question is refused, otherwise
-- looked up
abbrev pub row_of_route : StepStart → Waiting → Option ℕ → Done
row_of_route t x None = reply_step t.moment (without_server t.config t.moment x [] x.wanted.name) t.state
row_of_route t x (Some route) =
    row_of_look_up t x (look_up t.config.routes t.moment t.state.cache.entries most_aliases [] x.wanted)

-- a question of an unserved type or class is refused (RFC 1035 3.2.3), any other goes on
abbrev pub row_of_service : StepStart → Waiting → Done
row_of_service t x =
    if is_unserved x.wanted
    then reply_step t.moment (gives_up NotServed x) t.state
    else row_of_route t x (serving_route_of t.config x.wanted.name)

-- a question on arrival
abbrev pub taken_now : ℕ → Client → Header → Question → Waiting
taken_now n client h q = record { client = client; asked = asked_in h (Some q); taken = n; held = []; wanted = q }

-- a message by its question: without exactly one readable question the message is refused (RFC 1035
-- 4.1.2)
abbrev pub row_of_question : StepStart → Client → Header → Option Question → Done
row_of_question t client h None = reply_step t.moment (failed client (asked_in h None) BadFormat) t.state
row_of_question t client h (Some q) = row_of_service t (taken_now t.moment client h q)

-- a client's octets: dropped, refused for their opcode (RFC 1035 4.1.1), or a question
abbrev pub row_of_request : StepStart → Client → List ℕ → Done
row_of_request t client octets =
    if is_taken octets
    then (if (header_in octets).opcode == 0
    then row_of_question t client (header_in octets) (one_question octets)
    else reply_step t.moment (failed client (asked_in (header_in octets) None) BadOpcode) t.state)
    else idle_step t.moment t.state

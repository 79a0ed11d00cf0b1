-- The rows of a delivery, and of an accepted reply.
use Rattle.std.specs.Prelude.{ℕ, ◌+◌, Bool, if◌then◌else◌, nat_lt, nat_le, List, [], ◌∷◌, ◌++◌, length, map}
use Rattle.std.specs.Prelude.{filter, Option, Some, None, Result, Ok, Err}
use Rattle.std.specs.List.{flat_map}
use Rattle.dns_message.specs.declared.names.fault.Fault.{Fault}
use Rattle.dns_message.specs.Values.{Question, Message}
use Rattle.dns_message.specs.Messages.{message_of}
use Rattle.dns_message.specs.Questions.{asked_at}
use Rattle.suffix_routes.specs.declared.peer.Peer.{Peer}
use Rattle.suffix_routes.specs.Values.{Config}
use Rattle.outstanding.specs.Lists.{of_question, without_path}
use Rattle.outstanding.specs.Values.{Ask}
use Rattle.reply_match.specs.declared.verdict.Verdict.{Verdict}
use Rattle.reply_match.specs.declared.verdict.Verdict.TheVariants.{Stranger, Truncated, Failed, Malformed, Whole}
use Rattle.reply_match.specs.Verdicts.{judge}
use Rattle.retry_failover.specs.declared.Failure.TheVariants as failure
use Rattle.trust_rank.specs.declared.slot.Slot.{Slot}
use Rattle.trust_rank.specs.Values.{Piece, End, found, ends_no_data, ends_denied, elsewhere, lame, Walk}
use Rattle.trust_rank.specs.Walks.{most_aliases, walk_of, is_lame}
use Rattle.alias_chains.specs.RecordCache.Values.{Held}
use Rattle.step_values.specs.declared.action.Why.TheVariants.{NoPort}
use Rattle.step_table.specs.State.{State, StepStart, from_state}
use Rattle.waiting_questions.specs.Values.{Waiting, waits_for}
use Rattle.step_table.specs.Attempts.{first_ask_for}
use Rattle.alias_chains.specs.LookingUp.{ends, missed, LookUp, too_many, goes_on}
use Rattle.step_table.specs.Steps.{Done, Fate, gets, waits, with_preferred_server, with_promoted, idle_step}
use Rattle.step_table.specs.Steps.{still_waiting, closing_step, offering_step, gives_up}
use Rattle.alias_chains.specs.Offering.{held_at}
use Rattle.step_table.specs.Clients.{fate_of}
use Rattle.step_table.specs.Failures.{row_of_failure}

-- ---- an accepted reply

-- the last piece of a walk, after its aliases
abbrev pub last_of : Piece → List Piece → Piece
last_of p [] = p
last_of p (q ∷ ps) = last_of q ps

-- the pieces before the last: p, and then the list without its last
abbrev pub before_last : Piece → List Piece → List Piece
before_last p [] = []
before_last p (q ∷ ps) = p ∷ before_last q ps

-- a look-up that ends at the last piece, with the aliases before held
abbrev pub ends_at : ℕ → List Held → Question → List Piece → LookUp
ends_at n held q [] = record { held = held; wanted = q; met = missed; used = [] }
ends_at n held q (p ∷ ps) = record {
  held = held ++ map (held_at n) (before_last p ps);
  wanted = q;
  met = ends (held_at n (last_of p ps));
  used = [];
}

-- the look-up, failed if more than 8 aliases are held
abbrev pub unless_many : LookUp → LookUp
unless_many l = if nat_le (length l.held) most_aliases then l else too_many l.held l.wanted

-- the look-up of a question that waits for the reply, by the walk's end; if the walk leads on, the
-- look-up goes on with the walk's aliases held too, in the cache of before
abbrev pub looked_by : Config → ℕ → List Held → Walk → Waiting → End → LookUp
looked_by c n entries w x (elsewhere name) =
    goes_on c.routes n entries (x.held ++ map (held_at n) w.pieces) (asked_at x.wanted name)
looked_by c n entries w x found = unless_many (ends_at n x.held x.wanted w.pieces)
looked_by c n entries w x ends_no_data = unless_many (ends_at n x.held x.wanted w.pieces)
looked_by c n entries w x ends_denied = unless_many (ends_at n x.held x.wanted w.pieces)
looked_by c n entries w x lame = unless_many (ends_at n x.held x.wanted w.pieces)

-- the fate of each question; questions that wait for no reply wait on
abbrev pub fate_by : Config → ℕ → List Held → Ask → Walk → Waiting → Fate
fate_by c n entries a w x = if waits_for a.question x then fate_of c n x (looked_by c n entries w x w.end) else waits x

-- the slots used by the look-ups, question by question
abbrev pub used_by : Config → ℕ → List Held → Ask → Walk → List Waiting → List Slot
used_by c n entries a w xs = flat_map (λ x. (looked_by c n entries w x w.end).used) (filter (waits_for a.question) xs)

-- the question to ask for the redirected questions, which all want the same; none if its inquiry is
-- open
abbrev pub unless_open : Question → Option Ask → Option Question
unless_open q None = Some q
unless_open q (Some a) = None

-- the wanted question of the redirected questions, unless an ask for it is listed
abbrev pub to_be_asked : List Ask → List Waiting → Option Question
to_be_asked listed [] = None
to_be_asked listed (y ∷ ys) = unless_open y.wanted (of_question y.wanted listed)

-- without a port, a redirected question fails
abbrev pub without_port : Fate → Fate
without_port (gets reply) = gets reply
without_port (waits y) = gets (gives_up NoPort y)

-- the fate without a free port: a question that waits for q fails
abbrev pub unless_no_port : (Waiting → Fate) → Question → Waiting → Fate
unless_no_port fate q x = if waits_for q x then without_port (fate x) else waits x

-- the redirected questions get the next ask; without a port they fail
abbrev pub row_of_next_name : ℕ → Ask → (Waiting → Fate) → State → Option Ask → Done
row_of_next_name n a fate s None = closing_step n a (unless_no_port fate a.question) None s
row_of_next_name n a fate s (Some next) = closing_step n a fate (Some next) s

-- the ask of a reply that leads on ends: a new ask goes out if a question wants one
abbrev pub row_of_redirected : StepStart → Ask → (Waiting → Fate) → Option Question → Done
row_of_redirected t a fate None = closing_step t.moment a fate None t.state
row_of_redirected t a fate (Some q) =
    row_of_next_name t.moment a fate t.state
    (first_ask_for (from_state (record t.state { asks = without_path a.path t.state.asks }) t) q)

-- all questions waiting for the ask are answered, or redirected to the aliases' target
abbrev pub row_of_end : StepStart → Ask → Walk → (Waiting → Fate) → End → Done
row_of_end t a w fate (elsewhere name) =
    row_of_redirected (from_state (with_promoted (used_by t.config t.moment t.state.cache.entries a w t.state.waiting)
    t.state) t) a fate
    (to_be_asked (without_path a.path t.state.asks) (still_waiting
    (map fate (filter (waits_for a.question) t.state.waiting))))
row_of_end t a w fate found = closing_step t.moment a fate None t.state
row_of_end t a w fate ends_no_data = closing_step t.moment a fate None t.state
row_of_end t a w fate ends_denied = closing_step t.moment a fate None t.state
row_of_end t a w fate lame = closing_step t.moment a fate None t.state

-- an accepted reply: its pieces are offered, its server is preferred, and its walk decides
abbrev pub row_of_acceptance : StepStart → List Bool → Ask → Walk → Done
row_of_acceptance t rooms a w =
    offering_step t.moment rooms (w.pieces ++ w.authority)
    (row_of_end (from_state (with_preferred_server a t.state) t) a w
    (fate_by t.config t.moment t.state.cache.entries a w) w.end)

-- ---- a delivery

-- a reply by its walk: a lame reply is a failed attempt, any other is accepted
abbrev pub row_of_walk : StepStart → List Bool → Ask → Walk → Done
row_of_walk t rooms a w = if is_lame w.end then row_of_failure t a failure.Lame else row_of_acceptance t rooms a w

-- a matching message: unreadable, a failed attempt
abbrev pub row_of_message : StepStart → List Bool → Ask → Result Message Fault → Done
row_of_message t rooms a (Ok m) = row_of_walk t rooms a (walk_of t.config m a.question a.route)
row_of_message t rooms a (Err fault) = row_of_failure t a failure.Malformed

-- a delivery by its verdict: a stranger's octets change nothing but the moment
abbrev pub row_of_verdict : StepStart → List Bool → Ask → List ℕ → Verdict → Done
row_of_verdict t rooms a octets Stranger = idle_step t.moment t.state
row_of_verdict t rooms a octets Truncated = row_of_failure t a failure.Truncated
row_of_verdict t rooms a octets (Failed rcode) = row_of_failure t a failure.Rcode
row_of_verdict t rooms a octets Malformed = row_of_failure t a failure.Malformed
row_of_verdict t rooms a octets Whole = row_of_message t rooms a (message_of octets)

-- the moment at which an ask has failed
abbrev pub timeout_of : Config → Ask → ℕ
timeout_of c a = a.asked + c.limits.ask_ms

-- an ask at the end of its time is no longer answered
abbrev pub row_of_delivery : StepStart → List Bool → Peer → List ℕ → Option Ask → Done
row_of_delivery t rooms from octets None = idle_step t.moment t.state
row_of_delivery t rooms from octets (Some a) =
    if nat_lt t.moment (timeout_of t.config a)
    then row_of_verdict t rooms a octets (judge a from octets)
    else idle_step t.moment t.state

-- the verdict on a delivery as the reply to the ask on its path
abbrev pub verdict_on : Config → ℕ → Peer → List ℕ → Option Ask → Verdict
verdict_on c n from octets None = Stranger
verdict_on c n from octets (Some a) = if nat_lt n (timeout_of c a) then judge a from octets else Stranger

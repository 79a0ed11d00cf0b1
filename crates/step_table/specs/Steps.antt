-- The actions of a step, and the state after.
use Rattle.std.specs.Prelude.{ℕ, ◌+◌, if◌then◌else◌, Bool, List, [], ◌∷◌, ◌++◌, length, map, slice_set, Option, Some}
use Rattle.std.specs.Prelude.{None, Result, Ok, Err}
use Rattle.std.specs.List.{filter_map}
use Rattle.dns_message.specs.Values.{Question}
use Rattle.dns_message.specs.Writing.{written}
use Rattle.suffix_routes.specs.Values.{Config}
use Rattle.outstanding.specs.declared.ask.Path.{Path}
use Rattle.outstanding.specs.declared.ask.Path.TheVariants.{Udp, Tcp}
use Rattle.outstanding.specs.Lists.{without_path, is_tcp}
use Rattle.outstanding.specs.Values.{Ask}
use Rattle.trust_rank.specs.declared.slot.Slot.{Slot}
use Rattle.trust_rank.specs.Values.{Piece}
use Rattle.alias_chains.specs.RecordCache.Values.{Held}
use Rattle.alias_chains.specs.AnswerBuilder.declared.asked.Transport.{Transport}
use Rattle.alias_chains.specs.AnswerBuilder.declared.asked.Transport.TheVariants as transport
use Rattle.alias_chains.specs.AnswerBuilder.declared.fault.Fault.{Fault}
use Rattle.alias_chains.specs.AnswerBuilder.Values.{Asked}
use Rattle.alias_chains.specs.AnswerBuilder.Answers.{error_response}
use Rattle.alias_chains.specs.AnswerBuilder.Transports.{answer_of, stale_answer_of, local_answer_of}
use Rattle.step_values.specs.declared.event.Client.{Client}
use Rattle.step_values.specs.declared.event.Client.TheVariants.{Udp as FromUdp, Tcp as FromTcp}
use Rattle.step_values.specs.declared.action.Why.{Why}
use Rattle.step_values.specs.declared.action.Why.TheVariants.{Answered, TooLarge, Stale, LocalDenied}
use Rattle.step_values.specs.Values.{Action, ask_udp, ask_tcp, close_udp, close_tcp, send_reply}
use Rattle.step_values.specs.Requests.{rcode_of_why}
use Rattle.outstanding.specs.Draws.{ask_message}
use Rattle.step_table.specs.State.{State}
use Rattle.waiting_questions.specs.Values.{Waiting, waits_for}
use Rattle.alias_chains.specs.LookingUp.{promoted_all}
use Rattle.alias_chains.specs.Offering.{put_all, unkept_of}

-- the outcome of a step in the table: its actions, the number of entries that found no memory, and
-- the state after
pub record Done : Type 0 where
  pub actions : List Action
  pub unkept : ℕ
  pub state : State

-- the fate of a question: a reply, or waiting on
pub data Fate : Type 0 where
  gets : Action → Fate
  waits : Waiting → Fate

-- ---- states

-- the state of a new forwarder, and after a restart
abbrev pub initial : Config → State
initial c = record {
  cache = record { capacity = c.limits.cache; entries = [] };
  asks = [];
  waiting = [];
  preferred = map (λ r. 0) c.routes;
  moment = 0;
  tcp_asks = 0;
}

-- the state at a moment
abbrev pub at_moment : ℕ → State → State
at_moment n s = record s { moment = n }

-- the server that answered becomes the first to ask
abbrev pub with_preferred_server : Ask → State → State
with_preferred_server a s = record s { preferred = slice_set s.preferred a.route a.server }

-- the state with these cache entries
abbrev pub with_entries : List Held → State → State
with_entries entries s = record s { cache = record { capacity = s.cache.capacity; entries = entries } }

-- the entries used by a look-up become the most recently used
abbrev pub with_promoted : List Slot → State → State
with_promoted used s = with_entries (promoted_all used s.cache.entries) s

-- ---- steps

-- nothing is done, and the moment is noted
abbrev pub idle_step : ℕ → State → Done
idle_step n s = record { actions = []; unkept = 0; state = at_moment n s }

-- a reply, and nothing else
abbrev pub reply_step : ℕ → Action → State → Done
reply_step n action s = record { actions = action ∷ []; unkept = 0; state = at_moment n s }

-- the action that sends an ask by a path
abbrev pub asks_by : Path → Ask → Action
asks_by (Udp port) a = ask_udp port a.peer (written (ask_message a.id a.question))
asks_by (Tcp conn) a = ask_tcp conn a.peer (written (ask_message a.id a.question))

-- the action that sends an ask
abbrev pub asks : Ask → Action
asks a = asks_by a.path a

-- an ask, if any, as a list
abbrev pub ask_list : Option Ask → List Ask
ask_list None = []
ask_list (Some a) = a ∷ []

-- the number of an ask's queries over TCP
abbrev pub tcp_count : Option Ask → ℕ
tcp_count None = 0
tcp_count (Some a) = if is_tcp a.path then 1 else 0

-- a question waits, with the first ask of its inquiry unless an ask is listed
abbrev pub taking_step : ℕ → Waiting → Option Ask → State → Done
taking_step n x next s = record {
  actions = map asks (ask_list next);
  unkept = 0;
  state = record s {
    asks = s.asks ++ ask_list next;
    waiting = s.waiting ++ x ∷ [];
    moment = n;
    tcp_asks = s.tcp_asks + tcp_count next;
  };
}

-- the reply of a fate, if any
abbrev pub reply_in : Fate → Option Action
reply_in (gets a) = Some a
reply_in (waits y) = None

-- the question that waits on by a fate, if any
abbrev pub waiting_in : Fate → Option Waiting
waiting_in (gets a) = None
waiting_in (waits y) = Some y

-- the replies among fates, in order
abbrev pub replies : List Fate → List Action
replies fates = filter_map reply_in fates

-- the questions that wait on, in order
abbrev pub still_waiting : List Fate → List Waiting
still_waiting fates = filter_map waiting_in fates

-- the action that gives up a path
abbrev pub closes : Path → Action
closes (Udp port) = close_udp port
closes (Tcp conn) = close_tcp conn

-- the actions that give up an ask's path, if there is an ask
abbrev pub closing : Option Ask → List Action
closing None = []
closing (Some a) = closes a.path ∷ []

-- the listed asks without this one, if any
abbrev pub without_ask : Option Ask → List Ask → List Ask
without_ask None listed = listed
without_ask (Some a) listed = without_path a.path listed

-- at most one ask is closed, each waiting question has its fate, and at most one ask comes next
abbrev pub settling_step : ℕ → Option Ask → List Fate → Option Ask → State → Done
settling_step n close fates next s = record {
  actions = closing close ++ (replies fates ++ map asks (ask_list next));
  unkept = 0;
  state = record s {
    asks = without_ask close s.asks ++ ask_list next;
    waiting = still_waiting fates;
    moment = n;
    tcp_asks = s.tcp_asks + tcp_count next;
  };
}

-- an ask is closed, with a fate by the question
abbrev pub closing_step : ℕ → Ask → (Waiting → Fate) → Option Ask → State → Done
closing_step n a fate next s = settling_step n (Some a) (map fate s.waiting) next s

-- last, the pieces of an accepted reply are offered to the cache
abbrev pub offering_step : ℕ → List Bool → List Piece → Done → Done
offering_step n rooms ps d = record {
  actions = d.actions;
  unkept = unkept_of d.state.cache.capacity n rooms ps d.state.cache.entries;
  state = with_entries (put_all d.state.cache.capacity n rooms ps d.state.cache.entries) d.state;
}

-- ---- replies

-- the reply of a failure: header and question, with the code of its reason
abbrev pub failed : Client → Asked → Why → Action
failed client a why = send_reply client (written (error_response a (rcode_of_why why))) why

-- the reply that gives a waiting question the reason of its failure
abbrev pub gives_up : Why → Waiting → Action
gives_up why x = failed x.client x.asked why

-- how a client is reached
abbrev pub transport_of : Client → Transport
transport_of (FromUdp peer) = transport.Udp
transport_of (FromTcp conn) = transport.Tcp

-- an answer that fits, for this reason, or a failure where it is too large (RFC 1035 4.2.2)
abbrev pub sends : Why → Waiting → Result (List ℕ) Fault → Action
sends why x (Ok text) = send_reply x.client text why
sends why x (Err fault) = gives_up TooLarge x

-- the answer from a chain of aliases and the piece that ends it
abbrev pub answered : ℕ → Waiting → List Held → Held → Action
answered n x aliases end = sends Answered x (answer_of x.asked (aliases ++ end ∷ []) n (transport_of x.client))

-- the answer from the aliases that it holds and, after them, the expired data that was found
abbrev pub answered_stale : ℕ → Waiting → List Held → Action
answered_stale n x found = sends Stale x (stale_answer_of x.asked (x.held ++ found) (length x.held) n
    (transport_of x.client))

-- the answer that aliases lead to a name that the configuration denies, or that it denies its own
abbrev pub denied_locally : ℕ → Waiting → List Held → Action
denied_locally n x aliases = sends LocalDenied x (local_answer_of x.asked aliases n (transport_of x.client))

-- those that wait for this question get a failure, all others wait on
abbrev pub fails : Why → Question → Waiting → Fate
fails why q x = if waits_for q x then gets (gives_up why x) else waits x

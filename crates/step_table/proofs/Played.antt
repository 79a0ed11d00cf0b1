-- Worked lines as data: messages as they were read, and the actions of each line. Texts are
-- compared as the messages that are written, not as octets.
use Rattle.std.proofs.Common.{ℕ, ◌+◌, List, [], ◌∷◌, Bool, true, false, Option, Some, None}
use Rattle.std.specs.Prelude.{◌*◌, map, if◌then◌else◌, nat_lt, Ok}
use Rattle.suffix_routes.specs.declared.peer.Peer.{Peer}
use Rattle.suffix_routes.specs.Values.{Config, default_limits}
use Rattle.dns_message.specs.Values.{Question, Record, Message}
use Rattle.dns_message.specs.Writing.{written}
use Rattle.outstanding.specs.declared.ask.Path.{Path}
use Rattle.outstanding.specs.declared.ask.Path.TheVariants.{Udp}
use Rattle.outstanding.specs.Lists.{on_path as ask_on}
use Rattle.outstanding.specs.Values.{Ask}
use Rattle.retry_failover.specs.declared.Failure.{Failure}
use Rattle.alias_chains.specs.AnswerBuilder.Values.{Asked}
use Rattle.alias_chains.specs.AnswerBuilder.Answers.{full_answer, cut_answer, error_response}
use Rattle.alias_chains.specs.AnswerBuilder.Transports.{over_udp}
use Rattle.step_values.specs.declared.event.Client.{Client}
use Rattle.step_values.specs.declared.event.Client.TheVariants.{Udp as FromUdp}
use Rattle.step_values.specs.declared.action.Why.{Why}
use Rattle.step_values.specs.declared.action.Why.TheVariants.{Answered}
use Rattle.step_values.specs.Values.{Action, ask_udp, send_reply}
use Rattle.outstanding.specs.Draws.{ask_message}
use Rattle.step_table.specs.State.{State, start}
use Rattle.step_table.specs.Steps.{Done, initial, idle_step}
use Rattle.step_table.specs.Row.{effective}
use Rattle.step_table.specs.Ticks.{row_of_tick}
use Rattle.step_table.specs.Replies.{row_of_message, timeout_of}
use Rattle.step_table.specs.Failures.{row_of_failure, row_of_failed_path}
use Rattle.step_table.specs.Clients.{row_of_service, taken_now}

-- a client's question with this identifier; a whole reply, or a failure, to the ask on a path; the
-- end of a path; the passing of time; a new beginning
pub data Happening : Type 0 where
  asking : Client → ℕ → Question → Happening
  hearing : Path → Message → Happening
  failing : Path → Failure → Happening
  breaking : Path → Happening
  ticking : Happening
  restarting : Happening

abbrev pub heard : Config → ℕ → List ℕ → List Bool → Message → State → Option Ask → Done
heard c n words rooms m s None = idle_step n s
heard c n words rooms m s (Some a) = if nat_lt n (timeout_of c a) then row_of_message (start c n words s) rooms a (Ok m) else idle_step n s

abbrev pub failed_on : Config → ℕ → List ℕ → Failure → State → Option Ask → Done
failed_on c n words f s None = idle_step n s
failed_on c n words f s (Some a) = row_of_failure (start c n words s) a f

abbrev pub next : Config → ℕ → List ℕ → State → Happening → Done
next c n words s (asking client id q) =
    row_of_service (start c n words s) (taken_now n client (record { id = id; qr = false; opcode = 0; aa = false; tc = false; rd = true; ra = false; z = 0; rcode = 0; counts = 1 ∷ 0 ∷ 0 ∷ 0 ∷ [] }) q)
next c n words s (hearing path m) = heard c n words [] m s (ask_on path s.asks)
next c n words s (failing path f) = failed_on c n words f s (ask_on path s.asks)
next c n words s (breaking path) = row_of_failed_path (start c n words s) (ask_on path s.asks)
next c n words s ticking = row_of_tick (start c n words s)
next c n words s restarting = record { actions = []; unkept = 0; state = initial c }

-- the words that a script passes with its line
abbrev pub words_of : ℕ → List ℕ
words_of line = map (λ i. (8 * line + i) * 65537) (0 ∷ 1 ∷ 2 ∷ 3 ∷ 4 ∷ 5 ∷ 6 ∷ 7 ∷ [])

abbrev pub onward : Done → (State → List (List Action)) → List (List Action)
onward d rest = d.actions ∷ rest d.state

abbrev pub played_from : Config → ℕ → State → List (ℕ × Happening) → List (List Action)
played_from c line s [] = []
played_from c line s (t ∷ ts) = onward (next c (effective t.0 s) (words_of line) s t.1) (λ s'. played_from c (line + 1) s' ts)

-- the actions of each line
abbrev pub played : Config → List (ℕ × Happening) → List (List Action)
played c ts = played_from c 1 (initial c) ts

-- the state after some lines
abbrev pub state_from : Config → ℕ → State → List (ℕ × Happening) → State
state_from c line s [] = s
state_from c line s (t ∷ ts) = state_from c (line + 1) (next c (effective t.0 s) (words_of line) s t.1).state ts

abbrev pub after : Config → List (ℕ × Happening) → State
after c ts = state_from c 1 (initial c) ts

-- ---- names, questions, servers

-- e, under which most names are
abbrev pub example : List (List ℕ)
example = (101 ∷ []) ∷ []

-- a name of one letter below it
abbrev pub below : ℕ → List (List ℕ)
below letter = (letter ∷ []) ∷ example

-- such a name as data
abbrev pub name_data : ℕ → List ℕ
name_data letter = 1 ∷ letter ∷ 1 ∷ 101 ∷ 0 ∷ []

abbrev pub a : List (List ℕ)
a = below 97

abbrev pub b : List (List ℕ)
b = below 98

abbrev pub d : List (List ℕ)
d = below 100

abbrev pub address : List (List ℕ) → Question
address name = record { name = name; kind = 1; class = 1 }

abbrev pub server : Peer
server = record { ip = 192 ∷ 0 ∷ 2 ∷ 1 ∷ []; port = 53 }

abbrev pub other_server : Peer
other_server = record { ip = 192 ∷ 0 ∷ 2 ∷ 2 ∷ []; port = 53 }

abbrev pub client : Client
client = FromUdp (record { ip = 10 ∷ 0 ∷ 0 ∷ 7 ∷ []; port = 40000 })

-- two servers for every name, and a cache of this many entries
abbrev pub with_cache : ℕ → Config
with_cache capacity = record {
  listen = server;
  limits = record default_limits { cache = capacity };
  routes = record { suffix = []; deny = false; servers = server ∷ other_server ∷ [] } ∷ [];
}

abbrev pub config : Config
config = with_cache 4096

abbrev pub asks_for : ℕ → Question → Happening
asks_for id q = asking client id q

-- ---- replies of servers

abbrev pub rr : List (List ℕ) → ℕ → ℕ → List ℕ → Record
rr owner kind ttl rdata = record { owner = owner; kind = kind; class = 1; ttl = ttl; rdata = rdata }

abbrev pub host : List (List ℕ) → ℕ → ℕ → Record
host owner ttl last = rr owner 1 ttl (198 ∷ 51 ∷ 100 ∷ last ∷ [])

-- an SOA of e with this TTL, and with 600 as MINIMUM
abbrev pub soa : ℕ → Record
soa ttl = rr example 6 ttl (0 ∷ 0 ∷ 0 ∷ 0 ∷ 0 ∷ 1 ∷ 0 ∷ 0 ∷ 0 ∷ 2 ∷ 0 ∷ 0 ∷ 0 ∷ 3 ∷ 0 ∷ 0 ∷ 0 ∷ 4 ∷ 0 ∷ 0 ∷ 2 ∷ 88 ∷ [])

abbrev pub reply : Bool → ℕ → List Record → List Record → Message
reply aa rcode answers authority = record {
  header = record { id = 8; qr = true; opcode = 0; aa = aa; tc = false; rd = true; ra = false; z = 0; rcode = rcode; counts = [] };
  questions = [];
  answers = answers;
  authority = authority;
  additional = [];
}

abbrev pub hears : ℕ → Message → Happening
hears port m = hearing (Udp port) m

-- one address of the name, for 300 seconds
abbrev pub one_host : List (List ℕ) → Message
one_host name = reply true 0 (host name 300 5 ∷ []) []

-- ---- actions

abbrev pub asked : ℕ → Question → Asked
asked id q = record { id = id; opcode = 0; rd = true; question = Some q }

abbrev pub sends_query : ℕ → Peer → ℕ → Question → Action
sends_query port to id q = ask_udp port to (written (ask_message id q))

-- for this reason
abbrev pub shows_as : Why → ℕ → ℕ → Question → List Record → List Record → Action
shows_as why rcode id q answers authority =
    send_reply client
    (over_udp (written (full_answer (asked id q) (record { answers = answers; authority = authority; rcode = rcode })))
    (written (cut_answer (asked id q) (record { answers = answers; authority = authority; rcode = rcode }))))
    why

abbrev pub shows : ℕ → ℕ → Question → List Record → List Record → Action
shows rcode id q answers authority = shows_as Answered rcode id q answers authority

abbrev pub answers : ℕ → Question → List Record → Action
answers id q records = shows 0 id q records []

abbrev pub fails_with : Why → ℕ → ℕ → Question → Action
fails_with why rcode id q = send_reply client (written (error_response (asked id q) rcode)) why

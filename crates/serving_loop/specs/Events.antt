-- The events of a wire's arrivals, and how a turn serves them.
use Rattle.std.specs.Prelude.{◌≡◌, ℕ, suc, ◌+◌, ◌*◌, ◌≤◌, Bool, true, false, if◌then◌else◌, ◌==◌, List, [], ◌∷◌, ◌++◌}
use Rattle.std.specs.Prelude.{length, map, drop, Option, Some, None, option_map}
use Rattle.std.specs.List.{filter_map}
use Rattle.tcp_frames.specs.Frames.{frames_of}
use Rattle.suffix_routes.specs.declared.peer.Peer.{Peer}
use Rattle.suffix_routes.specs.Values.{Config}
use Rattle.outstanding.specs.declared.ask.Path.{Path}
use Rattle.outstanding.specs.declared.ask.Path.TheVariants.{Udp, Tcp}
use Rattle.step_values.specs.declared.event.Client.TheVariants as client
use Rattle.step_values.specs.Values.{Event, from_client, delivery, path_failed, tick, Action, ask_in, StepInput, Outcome}
use Rattle.step_values.specs.Values.{Step}
use Rattle.wires.specs.Wire.{Arrival, nothing, client_datagram, client_stream, client_closed, server_datagram}
use Rattle.wires.specs.Wire.{server_stream, path_gone, Put}

-- ---- streams

-- the octets on a client's connection since the beginning or the last close, after this arrival
abbrev pub client_octets_with : ℕ → List ℕ → Option Arrival → List ℕ
client_octets_with conn octets None = octets
client_octets_with conn octets (Some nothing) = octets
client_octets_with conn octets (Some (client_datagram from datagram)) = octets
client_octets_with conn octets (Some (client_stream other piece)) = if conn == other then octets ++ piece else octets
client_octets_with conn octets (Some (client_closed other)) = if conn == other then [] else octets
client_octets_with conn octets (Some (server_datagram port from datagram)) = octets
client_octets_with conn octets (Some (server_stream other from piece)) = octets
client_octets_with conn octets (Some (path_gone path)) = octets

-- the octets on a connection to a server, after this arrival
abbrev pub server_octets_with : ℕ → List ℕ → Option Arrival → List ℕ
server_octets_with conn octets None = octets
server_octets_with conn octets (Some nothing) = octets
server_octets_with conn octets (Some (client_datagram from datagram)) = octets
server_octets_with conn octets (Some (client_stream other piece)) = octets
server_octets_with conn octets (Some (client_closed other)) = octets
server_octets_with conn octets (Some (server_datagram port from datagram)) = octets
server_octets_with conn octets (Some (server_stream other from piece)) =
    if conn == other then octets ++ piece else octets
server_octets_with conn octets (Some (path_gone (Udp port))) = octets
server_octets_with conn octets (Some (path_gone (Tcp other))) = if conn == other then [] else octets

-- the octets on a connection: the octets before, followed by the octets of these arrivals; after a
-- close, only later octets
abbrev pub client_octets : ℕ → List ℕ → List (Option Arrival) → List ℕ
client_octets conn octets [] = octets
client_octets conn octets (a ∷ arrivals) = client_octets conn (client_octets_with conn octets a) arrivals

-- the octets that arrived from a server on a connection
abbrev pub server_octets : ℕ → List ℕ → List (Option Arrival) → List ℕ
server_octets conn octets [] = octets
server_octets conn octets (a ∷ arrivals) = server_octets conn (server_octets_with conn octets a) arrivals

-- the messages whose frames a piece completes
abbrev pub completed : List ℕ → List ℕ → List (List ℕ)
completed before piece = drop (length (frames_of before)) (frames_of (before ++ piece))

-- ---- the events of an arrival

-- a message of a client over TCP, as an event
abbrev pub client_message : ℕ → List ℕ → Event
client_message conn message = from_client (client.Tcp conn) message

-- a message of a server over TCP, as an event
abbrev pub server_message : ℕ → Peer → List ℕ → Event
server_message conn from message = delivery (Tcp conn) from message

-- The events of an arrival. Nothing, the end of a client's connection and a refused arrival are no
-- event. A datagram is one event, and a piece of a stream one for each frame that ends in the
-- piece, in order. The end of a path to a server is its failure.
abbrev pub events_of : List (Option Arrival) → Option Arrival → List Event
events_of past None = []
events_of past (Some nothing) = []
events_of past (Some (client_datagram from datagram)) = from_client (client.Udp from) datagram ∷ []
events_of past (Some (client_stream conn piece)) =
    map (client_message conn) (completed (client_octets conn [] past) piece)
events_of past (Some (client_closed conn)) = []
events_of past (Some (server_datagram port from datagram)) = delivery (Udp port) from datagram ∷ []
events_of past (Some (server_stream conn from piece)) =
    map (server_message conn from) (completed (server_octets conn [] past) piece)
events_of past (Some (path_gone path)) = path_failed path ∷ []

-- ---- events that the forwarder takes

-- an event of the forwarder, its outcome, unless memory ran out, and its puts
pub record Taken : Type 0 where
  pub input : StepInput
  pub answer : Option Outcome
  pub puts : List Put

-- the actions of an outcome; none if memory ran out
abbrev pub actions_in : Option Outcome → List Action
actions_in None = []
actions_in (Some outcome) = outcome.actions

-- the puts are the event's actions, in order
abbrev pub PutsItsActions : Taken → Type 0
PutsItsActions x = map (λ p. p.action) x.puts ≡ actions_in x.answer

-- the step, unless memory ran out
abbrev pub step_in : Taken → Option Step
step_in x = option_map (λ outcome. record { input = x.input; outcome = outcome }) x.answer

-- the steps; an event that found no memory is none
abbrev pub steps_in : List Taken → List Step
steps_in taken = filter_map step_in taken

-- the path of a refused ask
abbrev pub refused_path : Put → Option Path
refused_path p = if p.sent then None else option_map (λ ask. ask.path) (ask_in p.action)

-- the second path, or the first without a second
abbrev pub later : Option Path → Option Path → Option Path
later last None = last
later last (Some path) = Some path

-- the path of the last refused ask; a step asks once at most
abbrev pub failed_of : Option Path → List Put → Option Path
failed_of last [] = last
failed_of last (p ∷ puts) = failed_of (later last (refused_path p)) puts

-- The event, if any, and after each refused ask the failure of its path.
abbrev pub IsChain : Option Event → List Taken → Type 0
IsChain None [] = Unit {0}
IsChain None (x ∷ taken) = ⊥
IsChain (Some event) [] = ⊥
IsChain (Some event) (x ∷ taken) = (x.input.event ≡ event)
    × IsChain (option_map path_failed (failed_of None x.puts)) taken

-- the steps of all chains, in order
abbrev pub joined : List (List Taken) → List Taken
joined [] = []
joined (chain ∷ chains) = chain ++ joined chains

-- a chain for each event, in order
abbrev pub AreChains : List Event → List (List Taken) → Type 0
AreChains [] [] = Unit {0}
AreChains [] (chain ∷ chains) = ⊥
AreChains (event ∷ events) [] = ⊥
AreChains (event ∷ events) (chain ∷ chains) = IsChain (Some event) chain × AreChains events chains

-- whether more is due; not if memory ran out
abbrev pub more_in : Option Outcome → Bool
more_in None = false
more_in (Some outcome) = outcome.more

-- whether more was due after the first step
abbrev pub reports_more : List Taken → Bool
reports_more [] = false
reports_more (x ∷ taken) = more_in x.answer

-- Ticks, if wanted, until a tick reports that nothing more is due, or finds no memory.
abbrev pub AreTicks : Bool → List (List Taken) → Type 0
AreTicks false [] = Unit {0}
AreTicks false (chain ∷ chains) = ⊥
AreTicks true [] = ⊥
AreTicks true (chain ∷ chains) = IsChain (Some tick) chain × AreTicks (reports_more chain) chains

-- ---- turns

-- a turn: the arrival, the steps for each of its events, and the steps for each tick
pub record Turn : Type 0 where
  pub arrival : Option Arrival
  pub served : List (List Taken)
  pub ticks : List (List Taken)

-- the steps of a turn: the events' and the ticks'
abbrev pub taken_in_turn : Turn → List Taken
taken_in_turn r = joined r.served ++ joined r.ticks

-- the steps of all turns
abbrev pub taken_in : List Turn → List Taken
taken_in [] = []
taken_in (r ∷ all_turns) = taken_in_turn r ++ taken_in all_turns

-- A whole turn after these arrivals: each event of its arrival, then ticks, at most one more than
-- all questions and tries together.
pub record IsTurn (c : Config) (past : List (Option Arrival)) (r : Turn) : Type 0 where
  pub served : AreChains (events_of past r.arrival) r.served
  pub ticks : AreTicks true r.ticks
  pub few : length r.ticks ≤ suc (c.limits.questions + c.limits.inquiries * c.limits.tries)

-- a piece of a stream: a reader has to take the piece and give its frames, which allocates, before
-- they are events
abbrev pub IsPiece : Option Arrival → Type 0
IsPiece None = ⊥
IsPiece (Some nothing) = ⊥
IsPiece (Some (client_datagram from datagram)) = ⊥
IsPiece (Some (client_stream conn piece)) = Unit {0}
IsPiece (Some (client_closed conn)) = ⊥
IsPiece (Some (server_datagram port from datagram)) = ⊥
IsPiece (Some (server_stream conn from piece)) = Unit {0}
IsPiece (Some (path_gone path)) = ⊥

-- A turn in which memory ran out between two events of its arrival, a piece of a stream: the
-- events before were served. An event lost by the forwarder for lack of memory cuts no turn short.
pub record IsCutShort (past : List (Option Arrival)) (r : Turn) : Type 0 where
  pub piece : IsPiece r.arrival
  pub done : List Event
  pub left : List Event
  pub events : events_of past r.arrival ≡ done ++ left
  pub served : AreChains done r.served
  pub ticks : r.ticks ≡ []

-- each is a turn of the loop after the arrivals before
abbrev pub AreTurns : Config → List (Option Arrival) → List Turn → Type 0
AreTurns c past [] = Unit {0}
AreTurns c past (r ∷ all_turns) = IsTurn c past r × AreTurns c (past ++ r.arrival ∷ []) all_turns

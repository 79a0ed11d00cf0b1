-- Events, actions and steps.
use Rattle.std.specs.Prelude.{ℕ, Bool, List, map, Option, Some, None}
use Rattle.outstanding.specs.SuffixRoutes.declared.peer.Peer.{Peer}
use Rattle.step_values.specs.declared.event.Client.{Client}
use Rattle.outstanding.specs.declared.ask.Path.{Path}
use Rattle.outstanding.specs.declared.ask.Path.TheVariants as path
use Rattle.step_values.specs.declared.action.Why.{Why}
use Rattle.step_values.specs.declared.event.Event.{Event as OwnedEvent}
use Rattle.step_values.specs.declared.event.Event.TheVariants.{Client as OfClient, Delivery, PathFailed, Tick, Restart}
use Rattle.step_values.specs.declared.action.Action.{Action as OwnedAction}
use Rattle.step_values.specs.declared.action.Action.TheVariants.{AskUdp, AskTcp, CloseUdp, CloseTcp, Reply}

-- a client's message, a message on a path, the end of a path, a tick, or a restart
pub data Event : Type 0 where
  from_client : Client → List ℕ → Event
  delivery : Path → Peer → List ℕ → Event
  path_failed : Path → Event
  tick : Event
  restart : Event

-- a query from a UDP port or over a TCP connection, the end of either, or a reply to a client
pub data Action : Type 0 where
  ask_udp : ℕ → Peer → List ℕ → Action
  ask_tcp : ℕ → Peer → List ℕ → Action
  close_udp : ℕ → Action
  close_tcp : ℕ → Action
  send_reply : Client → List ℕ → Why → Action

-- ---- the parts of an event and of an action

-- a client's message
pub record Request : Type 0 where
  pub client : Client
  pub octets : List ℕ

-- a message on a path to a server
pub record Delivered : Type 0 where
  pub path : Path
  pub from : Peer
  pub octets : List ℕ

-- a sent ask
pub record SentAsk : Type 0 where
  pub path : Path
  pub server : Peer
  pub octets : List ℕ

-- a sent reply
pub record SentReply : Type 0 where
  pub client : Client
  pub octets : List ℕ
  pub why : Why

-- the client's message, of a client's event
abbrev pub request_in : Event → Option Request
request_in (from_client client octets) = Some (record { client = client; octets = octets })
request_in (delivery path from octets) = None
request_in (path_failed path) = None
request_in tick = None
request_in restart = None

-- the delivery, of a delivery's event
abbrev pub delivery_in : Event → Option Delivered
delivery_in (delivery path from octets) = Some (record { path = path; from = from; octets = octets })
delivery_in (from_client client octets) = None
delivery_in (path_failed path) = None
delivery_in tick = None
delivery_in restart = None

-- the sent ask, if any
abbrev pub ask_in : Action → Option SentAsk
ask_in (ask_udp port server octets) = Some (record { path = path.Udp port; server = server; octets = octets })
ask_in (ask_tcp conn server octets) = Some (record { path = path.Tcp conn; server = server; octets = octets })
ask_in (close_udp port) = None
ask_in (close_tcp conn) = None
ask_in (send_reply client octets why) = None

-- the closed path, if any
abbrev pub closed_path_in : Action → Option Path
closed_path_in (close_udp port) = Some (path.Udp port)
closed_path_in (close_tcp conn) = Some (path.Tcp conn)
closed_path_in (ask_udp port server octets) = None
closed_path_in (ask_tcp conn server octets) = None
closed_path_in (send_reply client octets why) = None

-- the sent reply, if any
abbrev pub reply_in_action : Action → Option SentReply
reply_in_action (send_reply client octets why) = Some (record { client = client; octets = octets; why = why })
reply_in_action (ask_udp port server octets) = None
reply_in_action (ask_tcp conn server octets) = None
reply_in_action (close_udp port) = None
reply_in_action (close_tcp conn) = None

-- ---- the program's values as these

-- an event of the code as a plain value
abbrev pub event_of : {A : Type 0} → OwnedEvent A → Event
event_of (OfClient client octets) = from_client client octets
event_of (Delivery path from octets) = delivery path from octets
event_of (PathFailed path) = path_failed path
event_of Tick = tick
event_of Restart = restart

-- an action of the code as a plain value
abbrev pub action_of : {A : Type 0} → OwnedAction A → Action
action_of (AskUdp port server octets) = ask_udp port server octets
action_of (AskTcp conn server octets) = ask_tcp conn server octets
action_of (CloseUdp port) = close_udp port
action_of (CloseTcp conn) = close_tcp conn
action_of (Reply client octets why) = send_reply client octets why

-- actions of the code as plain values
abbrev pub actions_of : {A : Type 0} → List (OwnedAction A) → List Action
actions_of actions = map action_of actions

-- a step's input: moment in ms, eight random words, event
pub record StepInput : Type 0 where
  pub now : ℕ
  pub words : List ℕ
  pub event : Event

-- a step's output: actions, number of offers without memory, and whether more is due
pub record Outcome : Type 0 where
  pub actions : List Action
  pub unkept : ℕ
  pub more : Bool

-- a step's input and output
pub record Step : Type 0 where
  pub input : StepInput
  pub outcome : Outcome

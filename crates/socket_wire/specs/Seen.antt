-- The wire and its sockets, as contracts see them.
use Rattle.std.specs.Prelude.{ℕ, Bool, List, [], Option, Some, None, Result, Ok, Err, map}
use Rattle.std.specs.declared.alloc.AllocError.{AllocError}
use Rattle.step_values.specs.declared.action.Action.{Action}
use Rattle.step_values.specs.Values.{action_of}
use Rattle.wires.specs.declared.wire.Arrival.{Arrival as OwnedArrival}
use Rattle.wires.specs.declared.wire.Arrival.TheVariants.{Nothing}
use Rattle.wires.specs.Wire.{Arrival, Put, Report, ◌then◌, arrival_of, arrived}
use Rattle.system_calls.specs.Call.{Call}
use Rattle.system_calls.specs.declared.sockets.DatagramSocket.{DatagramSocket}
use Rattle.system_calls.specs.declared.sockets.Listener.{Listener}
use Rattle.ready_sockets.specs.Seen.{SeenReadiness}
use Rattle.stream_connections.specs.Open.{Connections}
use Rattle.socket_wire.specs.Asks.{SeenAsks}
use Rattle.socket_wire.specs.declared.numbers.Numbers.{Numbers}
use Rattle.socket_wire.specs.declared.words.Words.{Words}

-- The system's calls so far, in order; the allocator; what may be ready; the sockets of datagrams
-- and for new connections; the connections and the numbers given to them; the sockets of asks; what
-- was read last; the words; the time, in ms, for which a question may wait; the moment of the last
-- sweep and the number of sweeps; and where the turns of clients, asks and servers go on.
pub record SeenSockets (A : Type 0) : Type 0 where
  pub calls : List Call
  pub alloc : A
  pub readiness : SeenReadiness A
  pub datagrams : DatagramSocket
  pub listener : Listener
  pub connections : Connections A
  pub numbers : Numbers
  pub asks : SeenAsks
  pub buffer : List ℕ
  pub words : Words
  pub deadline : ℕ
  pub tried : ℕ
  pub sweeps : ℕ
  pub next_client : ℕ
  pub next_ask : ℕ
  pub next_server : ℕ

-- The arrivals, puts, moments and words that it gave and took so far; the number of faults that it
-- counted; the time, in ms, for which a question on a connection may wait for its reply; the
-- system's calls so far, in order; and the random words.
pub record SeenWire : Type 0 where
  pub report : Report
  pub faults : ℕ
  pub deadline : ℕ
  pub calls : List Call
  pub words : Words

-- the arrival that a turn gave, unless memory for it ran out
abbrev pub came_of : {A : Type 0} → Result (OwnedArrival A) AllocError → Option Arrival
came_of (Ok arrival) = Some (arrival_of arrival)
came_of (Err refusal) = None

-- the report after a turn's first try: as before where nothing came, since the wire tries once more
abbrev pub report_at_once : {A : Type 0} → Report → Result (OwnedArrival A) AllocError → Report
report_at_once report (Ok Nothing) = report
report_at_once report came = report then arrived (came_of came)

-- an action that was put, and whether it was done, as plain values
abbrev pub put_of : {A : Type 0} → Action A × Bool → Put
put_of put = record { action = action_of put.0; sent = put.1 }

-- the report of these calls
abbrev pub report_of : {A : Type 0} → List (Result (OwnedArrival A) AllocError × Unit {0}) → List (Action A × Bool)
    → List (List ℕ × Unit {0}) → Report
report_of arrivals puts words = record {
  arrivals = map (λ call. came_of call.0) arrivals;
  puts = map put_of puts;
  moments = [];
  words = map (λ call. call.0) words;
}

-- the report with the moments that were given
abbrev pub with_moments : Report → List (ℕ × Unit {0}) → Report
with_moments report given = record report { moments = map (λ call. call.0) given }

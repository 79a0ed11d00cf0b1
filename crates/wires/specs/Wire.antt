-- The input and output of a wire, as plain values, and its report of them.
use Rattle.std.specs.Prelude.{◌≡◌, ℕ, ◌-◌, ◌^◌, ◌<◌, ◌≤◌, Bool, List, [], ◌∷◌, ◌++◌, Option, Some, None, option_map}
use Rattle.std.specs.Prelude.{Result, Ok, Err}
use Rattle.suffix_routes.specs.declared.peer.Peer.{Peer}
use Rattle.step_values.specs.Outstanding.declared.ask.Path.{Path}
use Rattle.step_values.specs.Values.{Action}
use Rattle.wires.specs.declared.wire.Arrival.{Arrival as OwnedArrival}
use Rattle.wires.specs.declared.wire.Arrival.TheVariants.{Nothing, ClientDatagram, ClientStream, ClientClosed}
use Rattle.wires.specs.declared.wire.Arrival.TheVariants.{ServerDatagram, ServerStream, PathGone}
use Rattle.wires.specs.declared.wire.WireFault.{WireFault}

-- An arrival: nothing, a client's datagram, a piece of a client's stream, the end of a client's
-- connection; a datagram at the port of an ask, a piece of the stream from a server, the end of a
-- path to a server.
pub data Arrival : Type 0 where
  nothing : Arrival
  client_datagram : Peer → List ℕ → Arrival
  client_stream : ℕ → List ℕ → Arrival
  client_closed : ℕ → Arrival
  server_datagram : ℕ → Peer → List ℕ → Arrival
  server_stream : ℕ → Peer → List ℕ → Arrival
  path_gone : Path → Arrival

-- an arrival of the code as a plain value
abbrev pub arrival_of : {A : Type 0} → OwnedArrival A → Arrival
arrival_of Nothing = nothing
arrival_of (ClientDatagram from octets) = client_datagram from octets
arrival_of (ClientStream conn octets) = client_stream conn octets
arrival_of (ClientClosed conn) = client_closed conn
arrival_of (ServerDatagram port from octets) = server_datagram port from octets
arrival_of (ServerStream conn from octets) = server_stream conn from octets
arrival_of (PathGone path) = path_gone path

-- the arrival of a call of the wire; nothing is known of a refused arrival
abbrev pub given : {A : Type 0} → Result (OwnedArrival A) WireFault → Option Arrival
given (Ok arrival) = Some (arrival_of arrival)
given (Err refused) = None

-- an action, and whether the wire took it
pub record Put : Type 0 where
  pub action : Action
  pub sent : Bool

-- the report of a wire: its arrivals, the actions put, and the moments in milliseconds and words,
-- each in order
pub record Report : Type 0 where
  pub arrivals : List (Option Arrival)
  pub puts : List Put
  pub moments : List ℕ
  pub words : List (List ℕ)

-- ---- reports grow

-- a report of nothing
abbrev pub silence : Report
silence = record { arrivals = []; puts = []; moments = []; words = [] }

infixr 20 ◌then◌
-- one report followed by another
abbrev pub ◌then◌ : Report → Report → Report
a then b = record {
  arrivals = a.arrivals ++ b.arrivals;
  puts = a.puts ++ b.puts;
  moments = a.moments ++ b.moments;
  words = a.words ++ b.words;
}

-- the report of an arrival
abbrev pub arrived : Option Arrival → Report
arrived a = record silence { arrivals = a ∷ [] }

-- the report of an action and whether it was sent
abbrev pub was_put : Action → Bool → Report
was_put action sent = record silence { puts = record { action = action; sent = sent } ∷ [] }

-- the report of a moment
abbrev pub moment_was : ℕ → Report
moment_was now = record silence { moments = now ∷ [] }

-- the report of eight random words
abbrev pub words_were : List ℕ → Report
words_were words = record silence { words = words ∷ [] }

-- a report, if any, with more at its end
abbrev pub report_then : Option Report → Report → Option Report
report_then report more = option_map (λ before. before then more) report

-- The report of a wire, and its count of faults.
pub record Journal : Type 0 where
  pub report : Option Report
  pub faults : ℕ

-- the report of a wire, if any, and its count of faults
abbrev pub journal : Option Report → ℕ → Journal
journal report faults = record { report = report; faults = faults }

-- Between the two, the wire reported exactly `more`: a report of now is the report before, followed
-- by `more`; the count of faults never falls; and a report before stays, with `more` at its end,
-- unless the wire counted a fault. A count at its last value cannot rise.
pub record ReportsMore (old : Journal) (more : Report) (new : Journal) : Type 0 where
  pub reports : (now : Report) → new.report ≡ Some now → (before : Report) × (old.report ≡ Some before) × (now ≡ before then more)
  pub counts : old.faults ≤ new.faults
  pub stays : new.faults ≡ old.faults → old.faults < 2 ^ 64 - 1 → new.report ≡ report_then old.report more

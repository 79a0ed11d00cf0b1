-- The first ask for a question, and the next after a failure.
use Rattle.std.specs.Prelude.{ℕ, ◌+◌, List, [], length, slice_get, get_or, option_map, Option, Some, None}
use Rattle.dns_message.specs.Values.{Question}
use Rattle.suffix_routes.specs.declared.peer.Peer.{Peer}
use Rattle.suffix_routes.specs.Values.{Config, Route}
use Rattle.outstanding.specs.declared.ask.Path.{Path}
use Rattle.outstanding.specs.declared.ask.Path.TheVariants.{Udp, Tcp}
use Rattle.outstanding.specs.Values.{Ask}
use Rattle.outstanding.specs.Draws.{udp_draw, drawn_by_tcp}
use Rattle.retry_failover.specs.declared.Plan.{Plan}
use Rattle.retry_failover.specs.declared.Next.{Next}
use Rattle.retry_failover.specs.declared.Next.TheVariants.{AskUdp, AskTcp, GiveUp}
use Rattle.suffix_routes.specs.Serving.{serving_route_of}
use Rattle.outstanding.specs.Lists.{is_tcp}
use Rattle.step_table.specs.State.{State, StepStart}

-- the servers of a route, in the order of the configuration
abbrev pub group_of : Config → ℕ → Option Route
group_of c route = slice_get c.routes route

-- the servers of a route; none without a route
abbrev pub servers_in : Option Route → List Peer
servers_in None = []
servers_in (Some r) = r.servers

-- the route's server at this place
abbrev pub peer_at : Config → ℕ → ℕ → Option Peer
peer_at c route server = slice_get (servers_in (group_of c route)) server

-- an identifier, and the path to go by
abbrev pub over_udp : Option (ℕ × ℕ) → Option (ℕ × Path)
over_udp draw = option_map (λ d. (d.0, Udp d.1)) draw

-- a draw for TCP as an identifier and the path of its connection
abbrev pub over_tcp : Option (ℕ × ℕ) → Option (ℕ × Path)
over_tcp draw = option_map (λ d. (d.0, Tcp d.1)) draw

-- the ask of a server by the drawn identifier and path; none without a server or a draw
abbrev pub ask_by : ℕ → Question → ℕ → ℕ → ℕ → Option Peer → Option (ℕ × Path) → Option Ask
ask_by n q route server used None drawn = None
ask_by n q route server used (Some peer) None = None
ask_by n q route server used (Some peer) (Some d) =
    Some (record {
      question = q;
      route = route;
      server = server;
      peer = peer;
      used = used;
      path = d.1;
      id = d.0;
      asked = n;
    })

-- the place of the first server to ask on a route
abbrev pub preferred_on : State → ℕ → ℕ
preferred_on s route = get_or s.preferred route 0

-- the first ask for a question goes by UDP to its route's preferred server
abbrev pub first_ask : StepStart → Question → ℕ → Option Ask
first_ask t q route =
    ask_by t.moment q route (preferred_on t.state route) 1 (peer_at t.config route (preferred_on t.state route))
    (over_udp (udp_draw t.words t.state.asks None))

-- to none if the name has no route
abbrev pub first_ask_on : StepStart → Question → Option ℕ → Option Ask
first_ask_on t q None = None
first_ask_on t q (Some route) = first_ask t q route

-- the first ask for a question, on the route of its name, if any
abbrev pub first_ask_for : StepStart → Question → Option Ask
first_ask_for t q = first_ask_on t q (serving_route_of t.config q.name)

-- the port given up with a path
abbrev pub freed_by : Path → Option ℕ
freed_by (Udp port) = Some port
freed_by (Tcp conn) = None

-- the numbers that decide the attempt after this ask: servers, tries, used tries, and whether the
-- ask went over TCP
abbrev pub plan_of : Config → Ask → Plan
plan_of c a = record {
  servers = length (servers_in (group_of c a.route));
  tries = c.limits.tries;
  used = a.used;
  server = a.server;
  tcp = is_tcp a.path;
}

-- the ask after a failed ask; the port given up counts as free
abbrev pub next_ask : StepStart → Ask → Next → Option Ask
next_ask t a (AskUdp server) =
    ask_by t.moment a.question a.route server (a.used + 1) (peer_at t.config a.route server)
    (over_udp (udp_draw t.words t.state.asks (freed_by a.path)))
next_ask t a (AskTcp server) =
    ask_by t.moment a.question a.route server (a.used + 1) (peer_at t.config a.route server)
    (over_tcp (drawn_by_tcp t.words t.state.tcp_asks))
next_ask t a GiveUp = None

-- Turns of the loop and their report, and neighbours: an event is left out or another, a tick is
-- missing, too many, or one more than the bound, and a part of the report is lost.
use Rattle.std.proofs.Common.{◌≡◌, ℕ, ◌≤◌, List, [], ◌∷◌, ◌++◌, length, map, Bool, true, false, Option, Some, None}
use Rattle.std.proofs.Common.{refl, ap, arith}
use Rattle.std.proofs.lemmas.Bool.{false≢true}
use Rattle.tcp_frames.specs.Frames.{frames_within, frames_of}
use Rattle.suffix_routes.specs.declared.peer.Peer.{Peer}
use Rattle.suffix_routes.specs.Values.{Config, default_limits}
use Rattle.outstanding.specs.declared.ask.Path.TheVariants.{Udp}
use Rattle.step_values.specs.declared.event.Client.TheVariants.{Udp as FromUdp}
use Rattle.step_values.specs.Values.{Event, from_client, path_failed, tick, ask_udp, Step}
use Rattle.wires.specs.Wire.{Arrival, client_datagram, client_stream, Put, Report}
use Rattle.forwarder_commands.specs.ServingLoop.Events.{Taken, AreChains, AreTicks, Turn, client_message, IsTurn, AreTurns}
use Rattle.forwarder_commands.specs.ServingLoop.Serving.{report_in}
use Rattle.forwarder_commands.specs.ServingLoop.InTime.{EndInTime, AreInTime}
use Rattle.forwarder_commands.specs.ServingLoop.TheoremUse.InTime.{IsInTime}
use Rattle.forwarder_commands.proofs.TheoremUse.CallerLemmas.{more_is_due}
use Rattle.worked_turns.proofs.Neighbours.{HoldsButFor}

-- ---- a client's datagram, its event and an ask

abbrev server : Peer
server = record { ip = 192 ∷ 0 ∷ 2 ∷ 1 ∷ []; port = 53 }

abbrev peer : Peer
peer = record { ip = 10 ∷ 0 ∷ 0 ∷ 7 ∷ []; port = 40000 }

-- one question may wait, for one ask and one try, so three ticks may be made in a turn
abbrev config : Config
config = record {
  listen = server;
  limits = record default_limits { questions = 1; inquiries = 1; tries = 1 };
  routes = [];
}

abbrev arrival : Option Arrival
arrival = Some (client_datagram peer (1 ∷ []))

abbrev event : Event
event = from_client (FromUdp peer) (1 ∷ [])

abbrev ask : Bool → Put
ask sent = record { action = ask_udp 1032 server []; sent = sent }

-- this event, at this moment and with this word, with these puts
abbrev took : ℕ → Event → List Put → Bool → Taken
took now e puts more = record {
  input = record { now = now; words = now ∷ []; event = e };
  answer = Some (record { actions = map (λ p. p.action) puts; unkept = 0; more = more });
  puts = puts;
}

-- the event's step, whose ask was sent or refused
abbrev asks : Bool → Taken
asks sent = took 1000 event (ask sent ∷ []) false

abbrev fails : Taken
fails = took 1001 (path_failed (Udp 1032)) [] false

-- a tick that reports more due, or that nothing is
abbrev ticks_at : ℕ → Bool → List Taken
ticks_at now more = took now tick [] more ∷ []

abbrev turn : List (List Taken) → List (List Taken) → Turn
turn served ticks = record { arrival = arrival; served = served; ticks = ticks }

-- ---- one turn

abbrev sent : List (List Taken)
sent = (asks true ∷ []) ∷ []

-- the ask was refused, so its path failed
abbrev refused : List (List Taken)
refused = (asks false ∷ fails ∷ []) ∷ []

abbrev one_tick : List (List Taken)
one_tick = ticks_at 1002 false ∷ []

a_turn : IsTurn config [] (turn sent one_tick)
a_turn = record { served = ((refl, tt), tt); ticks = ((refl, tt), tt); few = omega arith }

a_turn_with_a_refused_ask : IsTurn config [] (turn refused one_tick)
a_turn_with_a_refused_ask = record { served = ((refl, (refl, tt)), tt); ticks = ((refl, tt), tt); few = omega arith }

-- the event was left out
event_left_out : HoldsButFor (AreChains (event ∷ []) []) (IsTurn config [] (turn [] one_tick))
event_left_out = (
  λ served. record { served = served; ticks = ((refl, tt), tt); few = omega arith },
  λ h. h.served,
)

-- it was handed twice
event_twice : HoldsButFor (AreChains (event ∷ []) ((asks true ∷ []) ∷ (asks true ∷ []) ∷ []))
    (IsTurn config [] (turn ((asks true ∷ []) ∷ (asks true ∷ []) ∷ []) one_tick))
event_twice = (
  λ served. record { served = served; ticks = ((refl, tt), tt); few = omega arith },
  λ h. h.served.1,
)

-- a tick was handed in its place
abbrev other_event : List (List Taken)
other_event = ticks_at 1000 false ∷ []

another_event : HoldsButFor (AreChains (event ∷ []) other_event) (IsTurn config [] (turn other_event one_tick))
another_event = (
  λ served. record { served = served; ticks = ((refl, tt), tt); few = omega arith },
  λ h. by h.served.0.0,
)
  where
    by : ◌≡◌ {A = Event} tick event → ⊥
    by is = absurd cc

-- the ask was refused, and no failure of its path followed
abbrev unreported : List (List Taken)
unreported = (asks false ∷ []) ∷ []

failure_left_out : HoldsButFor (AreChains (event ∷ []) unreported) (IsTurn config [] (turn unreported one_tick))
failure_left_out = (
  λ served. record { served = served; ticks = ((refl, tt), tt); few = omega arith },
  λ h. h.served.0.1,
)

-- ---- the ticks of a turn

no_tick : HoldsButFor (AreTicks true []) (IsTurn config [] (turn sent []))
no_tick = (λ ticks. record { served = ((refl, tt), tt); ticks = ticks; few = omega arith }, λ h. h.ticks)

-- more was due after the last tick
abbrev one_too_few : List (List Taken)
one_too_few = ticks_at 1002 true ∷ []

too_few_ticks : HoldsButFor (AreTicks true one_too_few) (IsTurn config [] (turn sent one_too_few))
too_few_ticks = (λ ticks. record { served = ((refl, tt), tt); ticks = ticks; few = omega arith }, λ h. h.ticks.1)

-- nothing was due before the last tick
abbrev one_too_many : List (List Taken)
one_too_many = ticks_at 1002 false ∷ ticks_at 1003 false ∷ []

too_many_ticks : HoldsButFor (AreTicks true one_too_many) (IsTurn config [] (turn sent one_too_many))
too_many_ticks = (λ ticks. record { served = ((refl, tt), tt); ticks = ticks; few = omega arith }, λ h. h.ticks.1)

-- as many as may be, and one more
abbrev three : List (List Taken)
three = ticks_at 1002 true ∷ ticks_at 1003 true ∷ ticks_at 1004 false ∷ []

three_ticks : IsTurn config [] (turn sent three)
three_ticks =
    record { served = ((refl, tt), tt); ticks = ((refl, tt), ((refl, tt), ((refl, tt), tt))); few = omega arith }

abbrev four : List (List Taken)
four = ticks_at 1002 true ∷ ticks_at 1003 true ∷ ticks_at 1004 true ∷ ticks_at 1005 false ∷ []

four_ticks : HoldsButFor (4 ≤ 3) (IsTurn config [] (turn sent four))
four_ticks = (
  λ few. record {
    served = ((refl, tt), tt);
    ticks = ((refl, tt), ((refl, tt), ((refl, tt), ((refl, tt), tt))));
    few = few;
  },
  λ h. omega (arith, h.few),
)

-- ---- a turn whose arrival was refused

abbrev unheard : List (List Taken) → List (List Taken) → Turn
unheard served ticks = record { arrival = None; served = served; ticks = ticks }

refused_arrival : IsTurn config [] (unheard [] one_tick)
refused_arrival = record { served = tt; ticks = ((refl, tt), tt); few = omega arith }

-- its tick is left out
refused_without_a_tick : HoldsButFor (AreTicks true []) (IsTurn config [] (unheard [] []))
refused_without_a_tick = (λ ticks. record { served = tt; ticks = ticks; few = omega arith }, λ h. h.ticks)

-- an event is served all the same
refused_but_served : HoldsButFor (AreChains [] sent) (IsTurn config [] (unheard sent one_tick))
refused_but_served = (λ served. record { served = served; ticks = ((refl, tt), tt); few = omega arith }, λ h. h.served)

-- ---- turns in time

abbrev step : ℕ → Bool → Step
step now more = record {
  input = record { now = now; words = now ∷ []; event = tick };
  outcome = record { actions = []; unkept = 0; more = more };
}

-- of two ticks the last counts, after the step of the first
last_counts : (done : List Step) → EndInTime config done (ticks_at 1002 true ∷ ticks_at 1003 false ∷ [])
    → IsInTime config ((done ++ step 1002 true ∷ []) ++ step 1003 false ∷ [])
last_counts done h = h

-- after a tick that reports more the turn is late
late : (done : List Step) → EndInTime config done (ticks_at 1002 true ∷ []) → ⊥
late done h = more_is_due config done (step 1002 true) refl h

-- a tick without memory says nothing
unknown : (done : List Step) → EndInTime config done ((record (took 1002 tick [] false) { answer = None } ∷ []) ∷ [])
unknown done = tt

-- the second of two turns follows the steps of the first
second_follows : (done : List Step) → AreInTime config done (unheard [] (ticks_at 1002 false ∷ [])
    ∷ unheard [] (ticks_at 1003 false ∷ []) ∷ [])
    → IsInTime config ((done ++ []) ++ step 1002 false ∷ [])
    × IsInTime config (((done ++ step 1002 false ∷ []) ++ []) ++ step 1003 false ∷ [])
second_follows done h = (h.0, h.1.0)

-- ---- two turns: the first piece of a frame, and its last one

abbrev first_piece : Option Arrival
first_piece = Some (client_stream 3 (0 ∷ 2 ∷ 97 ∷ []))

abbrev last_piece : Option Arrival
last_piece = Some (client_stream 3 (98 ∷ []))

-- the first with these ticks, the second with these events
abbrev first : List (List Taken) → Turn
first ticks = record { arrival = first_piece; served = []; ticks = ticks }

abbrev second : List (List Taken) → Turn
second served = record { arrival = last_piece; served = served; ticks = ticks_at 2002 false ∷ [] }

-- the frame's message
abbrev heard : List (List Taken)
heard = (took 2001 (client_message 3 (97 ∷ 98 ∷ [])) [] false ∷ []) ∷ []

first_is_one : IsTurn config [] (first one_tick)
unfolding frames_of frames_within
first_is_one = record { served = tt; ticks = ((refl, tt), tt); few = omega arith }

second_is_one : IsTurn config (first_piece ∷ []) (second heard)
unfolding frames_of frames_within
second_is_one = record { served = ((refl, tt), tt); ticks = ((refl, tt), tt); few = omega arith }

two_turns : AreTurns config [] (first one_tick ∷ second heard ∷ [])
two_turns = (first_is_one, (second_is_one, tt))

-- the first is no whole turn
first_without_a_tick : HoldsButFor (IsTurn config [] (first [])) (AreTurns config [] (first [] ∷ second heard ∷ []))
first_without_a_tick = (λ is. (is, (second_is_one, tt)), λ h. h.0.ticks)

-- the second is none: the message was left out
second_without_its_event : HoldsButFor (IsTurn config (first_piece ∷ []) (second []))
    (AreTurns config [] (first one_tick ∷ second [] ∷ []))
unfolding frames_of frames_within
second_without_its_event = (λ is. (first_is_one, (is, tt)), λ h. h.1.0.served)

-- the other way round the last piece completes no frame
turned_round : AreTurns config [] (second heard ∷ first one_tick ∷ []) → ⊥
unfolding frames_of frames_within
turned_round h = h.0.served

-- ---- their report

-- a turn with a refused ask, and the first piece
abbrev both : List Turn
both = turn refused one_tick ∷ first (ticks_at 2000 false ∷ []) ∷ []

abbrev reported : List (Option Arrival) → List Put → List ℕ → List (List ℕ) → Report
reported arrivals puts moments words = record { arrivals = arrivals; puts = puts; moments = moments; words = words }

abbrev arrivals : List (Option Arrival)
arrivals = arrival ∷ first_piece ∷ []

abbrev moments : List ℕ
moments = 1000 ∷ 1001 ∷ 1002 ∷ 2000 ∷ []

abbrev words : List (List ℕ)
words = (1000 ∷ []) ∷ (1001 ∷ []) ∷ (1002 ∷ []) ∷ (2000 ∷ []) ∷ []

their_report : report_in both ≡ reported arrivals (ask false ∷ []) moments words
their_report = refl

an_arrival_lost : HoldsButFor (arrivals ≡ arrival ∷ [])
    (report_in both ≡ reported (arrival ∷ []) (ask false ∷ []) moments words)
an_arrival_lost = (
  λ same k. reported (same k) (ask false ∷ []) moments words,
  λ is. let many : 2 ≡ 1 = ap (λ (r : Report). length r.arrivals) is in omega (arith, many),
)

-- the refused ask is reported as sent
a_put_as_sent : HoldsButFor (ask false ∷ [] ≡ ask true ∷ [])
    (report_in both ≡ reported arrivals (ask true ∷ []) moments words)
a_put_as_sent = (
  λ same k. reported arrivals (same k) moments words,
  λ is. false≢true (ap (λ (r : Report). sent_first r.puts) is),
)
  where
    sent_first : List Put → Bool
    sent_first [] = false
    sent_first (p ∷ puts) = p.sent

-- without the moment of the last tick
a_moment_lost : HoldsButFor (moments ≡ 1000 ∷ 1001 ∷ 1002 ∷ [])
    (report_in both ≡ reported arrivals (ask false ∷ []) (1000 ∷ 1001 ∷ 1002 ∷ []) words)
a_moment_lost = (
  λ same k. reported arrivals (ask false ∷ []) (same k) words,
  λ is. let many : 4 ≡ 3 = ap (λ (r : Report). length r.moments) is in omega (arith, many),
)

-- without the words of the failed path
abbrev fewer_words : List (List ℕ)
fewer_words = (1000 ∷ []) ∷ (1002 ∷ []) ∷ (2000 ∷ []) ∷ []

words_lost : HoldsButFor (words ≡ fewer_words) (report_in both ≡ reported arrivals (ask false ∷ []) moments fewer_words)
words_lost = (
  λ same k. reported arrivals (ask false ∷ []) moments (same k),
  λ is. let many : 4 ≡ 3 = ap (λ (r : Report). length r.words) is in omega (arith, many),
)

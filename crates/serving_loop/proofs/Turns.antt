-- Turns, one after another.
use Rattle.std.proofs.Common.{◌≡◌, ◌∙◌, refl, sym, ap, subst, ℕ, ◌+◌, ◌*◌, ◌<◌, List, [], ◌∷◌, ◌++◌, length, drop, append_assoc, append-nil, Option, Some, None, Ok, Err, Bool, true, false, cond, arith}
use Rattle.std.specs.Prelude.{map, ◌==◌, unwrap_or}
use Rattle.std.specs.Map.{lookup}
use Rattle.std.specs.BTreeMap.{is_at}
use Rattle.std.specs.Ordering.{nat_cmp}
use Rattle.std.specs.List.{AllByRecursion}
use Rattle.std.specs.declared.alloc.AllocError.{AllocError}
use Rattle.std.proofs.lemmas.List.{length-append, map-append}
use Rattle.std.proofs.lemmas.List.Elements.{filter_map-append}
use Rattle.tcp_frames.specs.Frames.{frames_within, frames_of, unfinished_of}
use Rattle.tcp_frames.specs.Laws.{PiecesContinue}
use Rattle.suffix_routes.specs.Values.{Config}
use Rattle.outstanding.specs.declared.ask.Path.TheVariants.{Udp, Tcp}
use Rattle.step_values.specs.Values.{Event, Step}
use Rattle.forwarder_core.specs.StepTable.State.{Running}
use Rattle.forwarder_core.specs.TheoremSound.Runs.{Run}
use Rattle.forwarder_core.proofs.TheoremUse.CallerLemmas.{run_serves_on}
use Rattle.serving_loop.specs.declared.counts.Served.{Served}
use Rattle.serving_loop.specs.declared.streams.Streams.{Streams}
use Rattle.wires.specs.Wire.{Arrival, nothing, client_datagram, client_stream, client_closed, server_datagram, server_stream, path_gone, Report, ◌then◌, ReportsMore, arrived}
use Rattle.serving_loop.specs.Events.{Taken, PutsItsActions, step_in, steps_in, joined, AreChains, Turn, taken_in_turn, taken_in, client_message, server_message, client_octets, server_octets, client_octets_with, server_octets_with, completed, events_of, IsTurn, IsCutShort, AreTurns}
use Rattle.serving_loop.specs.Serving.{Standing, Does, Adds, capped, report_of_all, report_in_turn, report_in, lost_in, refused_in, missed_by, missed_in, Serves}
use Rattle.serving_loop.specs.Handing.{Ticks}
use Rattle.serving_loop.specs.Streams.{left_on, events_by, client_left_with, server_left_with, Follows, Tracks, Arrives, TakesArrival, TakesTurn, TakesTurns}
use Rattle.serving_loop.proofs.Journal.{then_then, then_silence, reports_nothing, reports_on, adds_none, adds_more, lost_append, refused_append}
use Rattle.serving_loop.proofs.Handling.{run_append, all_append, does_more}
use Rattle.serving_loop.proofs.InTime.{turns_end_ticks, end_ticks_too, turns_in_time}

-- ---- a single turn

module _ {A : Type 0} (s s' : Streams A) where
  pub turn_whole : (x y z : Standing) → TakesArrival s (Ok tt) s' x y → Ticks y z → TakesTurn s (Ok tt) s' x z
  turn_whole x y z h ticks =
      let same : y.running.config ≡ x.running.config = h.serves.does.config ∙ ap (λ (r : Running). r.config) h.arrives.running in
      let bound = ap (λ (c : Config). c.limits.questions + c.limits.inquiries * c.limits.tries) same in
      let few = ticks.few in
      record {
        turn = record { arrival = h.arrival; served = h.serves.chains; ticks = ticks.chains };
        mid = h.mid;
        arrives = h.arrives;
        does = does_more h.mid y z (joined h.serves.chains) (joined ticks.chains) h.serves.does ticks.does;
        ok = record {
          served = subst (λ (events : List Event). AreChains events h.serves.chains) (sym (h.serves.events_are ∙ ap (λ (xs : List Event). h.serves.done ++ xs) h.serves.ok ∙ append-nil h.serves.done)) h.serves.served;
          ticks = ticks.are_ticks;
          few = omega (arith, few, bound);
          follows = h.follows;
        };
        err = tt;
      }

  pub turn_cut : (e : AllocError) (x y : Standing) → TakesArrival s (Err e) s' x y → TakesTurn s (Err e) s' x y
  turn_cut e x y h = record {
    turn = record { arrival = h.arrival; served = h.serves.chains; ticks = [] };
    mid = h.mid;
    arrives = h.arrives;
    does = subst (λ (taken : List Taken). Does h.mid taken y) (sym (append-nil (joined h.serves.chains))) h.serves.does;
    ok = tt;
    err = record { piece = h.piece; done = h.serves.done; missed = h.serves.missed; events_are = h.serves.events_are; served = h.serves.served; ticks = refl };
  }

-- ---- the streams' contents

client_octets_more : (conn : ℕ) (octets : List ℕ) (past : List (Option Arrival)) (a : Option Arrival) → client_octets conn octets (past ++ a ∷ []) ≡ client_octets_with conn (client_octets conn octets past) a
client_octets_more conn octets [] a = refl
client_octets_more conn octets (b ∷ past) a = client_octets_more conn (client_octets_with conn octets b) past a

server_octets_more : (conn : ℕ) (octets : List ℕ) (past : List (Option Arrival)) (a : Option Arrival) → server_octets conn octets (past ++ a ∷ []) ≡ server_octets_with conn (server_octets conn octets past) a
server_octets_more conn octets [] a = refl
server_octets_more conn octets (b ∷ past) a = server_octets_more conn (server_octets_with conn octets b) past a

none_left : unfinished_of [] ≡ []
unfolding unfinished_of frames_of frames_within
none_left = refl

module _ (law : PiecesContinue) where
  fed_on : (octets left piece : List ℕ) → left ≡ unfinished_of octets → unfinished_of (left ++ piece) ≡ unfinished_of (octets ++ piece)
  fed_on octets left piece is = ap (λ (xs : List ℕ). unfinished_of (xs ++ piece)) is ∙ sym (law octets piece).unfinished

  piece_if : (b : Bool) (octets left piece : List ℕ) → left ≡ unfinished_of octets → cond b (unfinished_of (left ++ piece)) left ≡ unfinished_of (cond b (octets ++ piece) octets)
  piece_if true octets left piece is = fed_on octets left piece is
  piece_if false octets left piece is = is

  closed_if : (b : Bool) (octets left : List ℕ) → left ≡ unfinished_of octets → cond b [] left ≡ unfinished_of (cond b [] octets)
  closed_if true octets left is = sym none_left
  closed_if false octets left is = is

  client_tracks : (conn : ℕ) (octets left : List ℕ) (a : Option Arrival) → left ≡ unfinished_of octets → client_left_with conn left a ≡ unfinished_of (client_octets_with conn octets a)
  client_tracks conn octets left None is = is
  client_tracks conn octets left (Some nothing) is = is
  client_tracks conn octets left (Some (client_datagram from datagram)) is = is
  client_tracks conn octets left (Some (client_stream other piece)) is = piece_if (conn == other) octets left piece is
  client_tracks conn octets left (Some (client_closed other)) is = closed_if (conn == other) octets left is
  client_tracks conn octets left (Some (server_datagram port from datagram)) is = is
  client_tracks conn octets left (Some (server_stream other from piece)) is = is
  client_tracks conn octets left (Some (path_gone path)) is = is

  server_tracks : (conn : ℕ) (octets left : List ℕ) (a : Option Arrival) → left ≡ unfinished_of octets → server_left_with conn left a ≡ unfinished_of (server_octets_with conn octets a)
  server_tracks conn octets left None is = is
  server_tracks conn octets left (Some nothing) is = is
  server_tracks conn octets left (Some (client_datagram from datagram)) is = is
  server_tracks conn octets left (Some (client_stream other piece)) is = is
  server_tracks conn octets left (Some (client_closed other)) is = is
  server_tracks conn octets left (Some (server_datagram port from datagram)) is = is
  server_tracks conn octets left (Some (server_stream other from piece)) is = piece_if (conn == other) octets left piece is
  server_tracks conn octets left (Some (path_gone (Udp port))) is = is
  server_tracks conn octets left (Some (path_gone (Tcp other))) is = closed_if (conn == other) octets left is

  pub tracks_on : {A : Type 0} (past : List (Option Arrival)) (a : Option Arrival) (s s' : Streams A) → Tracks past s → Follows s a s' → Tracks (past ++ a ∷ []) s'
  tracks_on past a s s' tracks follows = record {
    clients = λ conn. follows.clients conn ∙ client_tracks conn (client_octets conn [] past) (left_on s.clients conn) a (tracks.clients conn) ∙ ap unfinished_of (sym (client_octets_more conn [] past a));
    servers = λ conn. follows.servers conn ∙ server_tracks conn (server_octets conn [] past) (left_on s.servers conn) a (tracks.servers conn) ∙ ap unfinished_of (sym (server_octets_more conn [] past a));
  }

  drop_front : {X : Type 0} (xs ys : List X) → drop (length xs) (xs ++ ys) ≡ ys
  drop_front [] ys = refl
  drop_front (x ∷ xs) ys = drop_front xs ys

  completes : (octets left piece : List ℕ) → left ≡ unfinished_of octets → frames_of (left ++ piece) ≡ completed octets piece
  completes octets left piece is = ap (λ (xs : List ℕ). frames_of (xs ++ piece)) is ∙ sym (ap (λ (xs : List (List ℕ)). drop (length (frames_of octets)) xs) (law octets piece).frames ∙ drop_front (frames_of octets) (frames_of (unfinished_of octets ++ piece)))

  pub same_events : {A : Type 0} (past : List (Option Arrival)) (a : Option Arrival) (s : Streams A) → Tracks past s → events_by s a ≡ events_of past a
  same_events past None s tracks = refl
  same_events past (Some nothing) s tracks = refl
  same_events past (Some (client_datagram from datagram)) s tracks = refl
  same_events past (Some (client_stream conn piece)) s tracks = ap (map (client_message conn)) (completes (client_octets conn [] past) (left_on s.clients conn) piece (tracks.clients conn))
  same_events past (Some (client_closed conn)) s tracks = refl
  same_events past (Some (server_datagram port from datagram)) s tracks = refl
  same_events past (Some (server_stream conn from piece)) s tracks = ap (map (server_message conn from)) (completes (server_octets conn [] past) (left_on s.servers conn) piece (tracks.servers conn))
  same_events past (Some (path_gone path)) s tracks = refl

-- ---- all turns

-- so far: whole turns, and their effects
pub record DoesTurns (before : Standing) (all_turns : List Turn) (after : Standing) : Type 0 where
  pub config : after.running.config ≡ before.running.config
  pub run : Run before.running.config before.running.state (steps_in (taken_in all_turns)) after.running.state
  pub puts : AllByRecursion PutsItsActions (taken_in all_turns)
  pub report : ReportsMore before.report (report_in all_turns) after.report
  pub lost : Adds before.counts.lost (lost_in (taken_in all_turns)) after.counts.lost
  pub refused_puts : Adds before.counts.refused_puts (refused_in (taken_in all_turns)) after.counts.refused_puts
  pub turns : after.counts.turns ≡ before.counts.turns
  pub refused_arrivals : Adds before.counts.refused_arrivals (missed_in all_turns) after.counts.refused_arrivals
  pub same_forwarder : after.of_forwarder ≡ before.of_forwarder
  pub same_wire : after.of_wire ≡ before.of_wire

taken_more : (all_turns : List Turn) (t : Turn) → taken_in (all_turns ++ t ∷ []) ≡ taken_in all_turns ++ taken_in_turn t
taken_more [] t = append-nil (taken_in_turn t)
taken_more (u ∷ all_turns) t = ap (λ (xs : List Taken). taken_in_turn u ++ xs) (taken_more all_turns t) ∙ sym (append_assoc (taken_in_turn u) (taken_in all_turns) (taken_in_turn t))

report_then : (all_turns : List Turn) (t : Turn) → report_in (all_turns ++ t ∷ []) ≡ report_in all_turns then report_in_turn t
report_then [] t = then_silence (report_in_turn t)
report_then (u ∷ all_turns) t = ap (λ (x : Report). report_in_turn u then x) (report_then all_turns t) ∙ sym (then_then (report_in_turn u) (report_in all_turns) (report_in_turn t))

missed_more : (all_turns : List Turn) (t : Turn) → missed_in (all_turns ++ t ∷ []) ≡ missed_in all_turns + missed_by t.arrival
missed_more [] t = omega arith
missed_more (u ∷ all_turns) t = let rest = missed_more all_turns t in omega (arith, rest)

pub does_no_turns : (x : Standing) → DoesTurns x [] x
does_no_turns x = record { config = refl; run = refl; puts = tt; report = reports_nothing x.report; lost = adds_none _ _ refl; refused_puts = adds_none _ _ refl; turns = refl; refused_arrivals = adds_none _ _ refl; same_forwarder = refl; same_wire = refl }

pub does_turn : (x y m z : Standing) (all_turns : List Turn) (t : Turn) → DoesTurns x all_turns y → Arrives y t.arrival m → Does m (taken_in_turn t) z → DoesTurns x (all_turns ++ t ∷ []) z
does_turn x y m z all_turns t so_far arrives does =
    let taken = taken_more all_turns t in
    let config : m.running.config ≡ x.running.config = ap (λ (r : Running). r.config) arrives.running ∙ so_far.config in
    let last = subst (λ (r : Running). Run r.config r.state (steps_in (taken_in_turn t)) z.running.state) arrives.running does.run in
    record {
      config = does.config ∙ config;
      run = subst (λ (steps : List Step). Run x.running.config x.running.state steps z.running.state) (sym (ap steps_in taken ∙ filter_map-append step_in (taken_in all_turns) (taken_in_turn t)))
          (run_append x.running.config x.running.state y.running.state z.running.state (steps_in (taken_in all_turns)) (steps_in (taken_in_turn t)) so_far.run (subst (λ (c : Config). Run c y.running.state (steps_in (taken_in_turn t)) z.running.state) so_far.config last));
      puts = subst (AllByRecursion PutsItsActions) (sym taken) (all_append (taken_in all_turns) (taken_in_turn t) so_far.puts does.puts);
      report = subst (λ (more : Report). ReportsMore x.report more z.report) (sym (report_then all_turns t)) (reports_on x.report y.report z.report (report_in all_turns) (report_in_turn t) so_far.report (reports_on y.report m.report z.report (arrived t.arrival) (report_of_all (taken_in_turn t)) arrives.report does.report));
      lost = λ le.
          let sum = ap lost_in taken ∙ lost_append (taken_in all_turns) (taken_in_turn t) in
          let same = arrives.lost in
          let both = adds_more x.counts.lost y.counts.lost z.counts.lost (lost_in (taken_in all_turns)) (lost_in (taken_in_turn t)) so_far.lost (subst (λ (n : ℕ). Adds n (lost_in (taken_in_turn t)) z.counts.lost) same does.lost) le in
          omega (arith, sum, both);
      refused_puts = λ le.
          let sum = ap refused_in taken ∙ refused_append (taken_in all_turns) (taken_in_turn t) in
          let same = arrives.refused_puts in
          let both = adds_more x.counts.refused_puts y.counts.refused_puts z.counts.refused_puts (refused_in (taken_in all_turns)) (refused_in (taken_in_turn t)) so_far.refused_puts (subst (λ (n : ℕ). Adds n (refused_in (taken_in_turn t)) z.counts.refused_puts) same does.refused_puts) le in
          omega (arith, sum, both);
      turns = does.turns ∙ arrives.turns ∙ so_far.turns;
      refused_arrivals = λ le.
          let sum = missed_more all_turns t in
          let same = does.refused_arrivals in
          let both = adds_more x.counts.refused_arrivals y.counts.refused_arrivals m.counts.refused_arrivals (missed_in all_turns) (missed_by t.arrival) so_far.refused_arrivals arrives.refused_arrivals le in
          omega (arith, sum, same, both);
      same_forwarder = does.same_forwarder ∙ arrives.same_forwarder ∙ so_far.same_forwarder;
      same_wire = does.same_wire ∙ arrives.same_wire ∙ so_far.same_wire;
    }

are_more : (c : Config) (past : List (Option Arrival)) (all_turns : List Turn) (t : Turn) → AreTurns c past all_turns → IsTurn c (past ++ map (λ (u : Turn). u.arrival) all_turns) t → AreTurns c past (all_turns ++ t ∷ [])
are_more c past [] t are is = (subst (λ (p : List (Option Arrival)). IsTurn c p t) (append-nil past) is, tt)
are_more c past (u ∷ all_turns) t are is = (are.0, are_more c (past ++ u.arrival ∷ []) all_turns t are.1 (subst (λ (p : List (Option Arrival)). IsTurn c p t) (sym (append_assoc past (u.arrival ∷ []) (map (λ (v : Turn). v.arrival) all_turns))) is))

-- `count` turns so far, and the readers with the rest of the streams
pub record TurnsSoFar {A : Type 0} (count : ℕ) (s : Streams A) (before after : Standing) : Type 0 where
  pub all_turns : List Turn
  pub long : length all_turns ≡ count
  pub are : AreTurns before.running.config [] all_turns
  pub tracks : Tracks (map (λ (t : Turn). t.arrival) all_turns) s
  pub does : DoesTurns before all_turns after

pub turns_none : {A : Type 0} (s : Streams A) (x : Standing) → s.clients.entries ≡ [] → s.servers.entries ≡ [] → TurnsSoFar 0 s x x
turns_none s x clients servers = record {
  all_turns = [];
  long = refl;
  are = tt;
  tracks = record { clients = λ conn. ap (λ es. left_in es conn) clients ∙ sym none_left; servers = λ conn. ap (λ es. left_in es conn) servers ∙ sym none_left };
  does = does_no_turns x;
}
  where
    left_in : List (ℕ × List ℕ) → ℕ → List ℕ
    left_in es conn = unwrap_or (lookup (is_at (nat_cmp conn)) es) []

pub turns_more : PiecesContinue → {A : Type 0} (count : ℕ) (s s' : Streams A) (x y z : Standing) → TurnsSoFar count s x y → TakesTurn s (Ok tt) s' y z → TurnsSoFar (count + 1) s' x z
turns_more law count s s' x y z so_far h =
    let past = map (λ (t : Turn). t.arrival) so_far.all_turns in
    let bound = ap (λ (c : Config). c.limits.questions + c.limits.inquiries * c.limits.tries) so_far.does.config in
    let few = h.ok.few in
    let is : IsTurn x.running.config past h.turn = record {
      served = subst (λ (events : List Event). AreChains events h.turn.served) (same_events law past h.turn.arrival s so_far.tracks) h.ok.served;
      ticks = h.ok.ticks;
      few = omega (arith, few, bound);
    } in
    record {
      all_turns = so_far.all_turns ++ h.turn ∷ [];
      long = let sum = length-append so_far.all_turns (h.turn ∷ []) in let long = so_far.long in omega (arith, sum, long);
      are = are_more x.running.config [] so_far.all_turns h.turn so_far.are is;
      tracks = subst (λ (arrivals : List (Option Arrival)). Tracks arrivals s') (sym (map-append (λ (t : Turn). t.arrival) so_far.all_turns (h.turn ∷ []))) (tracks_on law past h.turn.arrival s s' so_far.tracks h.ok.follows);
      does = does_turn x y h.mid z so_far.all_turns h.turn so_far.does h.arrives h.does;
    }

module _ {A : Type 0} (wanted : ℕ) (s : Streams A) (x y : Standing) (so_far : TurnsSoFar wanted s x y) where
  all_served : x.counts ≡ record { turns = wanted; lost = 0; refused_puts = 0; refused_arrivals = 0 } → Serves x.running x.report wanted (Ok y.counts) y.running y.report
  all_served zeros = record {
    all_turns = so_far.all_turns;
    ends = (so_far.long, so_far.are, counts);
    config = so_far.does.config;
    run = so_far.does.run;
    truly = run_serves_on x.running.config x.running.state y.running.state
        (steps_in (taken_in so_far.all_turns)) so_far.does.run;
    in_time = λ steps came. turns_in_time x.running.config steps x.running.state y.running.state so_far.all_turns came
        (turns_end_ticks x.running.config [] so_far.all_turns so_far.are) so_far.does.run;
    puts = so_far.does.puts;
    report = so_far.does.report;
  }
    where
      lost : y.counts.lost ≡ capped (lost_in (taken_in so_far.all_turns))
      lost = let none = ap (λ (v : Served). v.lost) zeros in let adds = so_far.does.lost (omega (arith, none)) in omega (arith, none, adds)

      refused : y.counts.refused_puts ≡ capped (refused_in (taken_in so_far.all_turns))
      refused = let none = ap (λ (v : Served). v.refused_puts) zeros in let adds = so_far.does.refused_puts (omega (arith, none)) in omega (arith, none, adds)

      missed : y.counts.refused_arrivals ≡ capped (missed_in so_far.all_turns)
      missed = let none = ap (λ (v : Served). v.refused_arrivals) zeros in let adds = so_far.does.refused_arrivals (omega (arith, none)) in omega (arith, none, adds)

      counts : y.counts ≡ record { turns = wanted; lost = capped (lost_in (taken_in so_far.all_turns)); refused_puts = capped (refused_in (taken_in so_far.all_turns)); refused_arrivals = capped (missed_in so_far.all_turns) }
      counts i = record { turns = (so_far.does.turns ∙ ap (λ (v : Served). v.turns) zeros) i; lost = lost i; refused_puts = refused i; refused_arrivals = missed i }

  pub turns_end : TakesTurns wanted (Ok y.counts) x y
  turns_end = record { serves = all_served; same_forwarder = so_far.does.same_forwarder; same_wire = so_far.does.same_wire }

pub turns_cut : PiecesContinue → {A : Type 0} (wanted count : ℕ) (s s' : Streams A) (e : AllocError) (x y z : Standing) → count < wanted → TurnsSoFar count s x y → TakesTurn s (Err e) s' y z → TakesTurns wanted (Err e) x z
turns_cut law wanted count s s' e x y z below so_far h =
    let past = map (λ (t : Turn). t.arrival) so_far.all_turns in
    let does = does_turn x y h.mid z so_far.all_turns h.turn so_far.does h.arrives h.does in
    let cut : IsCutShort past h.turn = record { piece = h.err.piece; done = h.err.done; left = h.err.missed; events = sym (same_events law past h.turn.arrival s so_far.tracks) ∙ h.err.events_are; served = h.err.served; ticks = h.err.ticks } in
    record {
      serves = λ _. record {
        all_turns = so_far.all_turns ++ h.turn ∷ [];
        ends = (so_far.all_turns, (h.turn, refl, (let sum = length-append so_far.all_turns (h.turn ∷ []) in let long = so_far.long in omega (arith, sum, long, below)), so_far.are, cut));
        config = does.config;
        run = does.run;
        truly = run_serves_on x.running.config x.running.state z.running.state
            (steps_in (taken_in (so_far.all_turns ++ h.turn ∷ []))) does.run;
        in_time = λ steps came. turns_in_time x.running.config steps x.running.state z.running.state
            (so_far.all_turns ++ h.turn ∷ []) came
            (end_ticks_too so_far.all_turns h.turn (turns_end_ticks x.running.config [] so_far.all_turns so_far.are)
            h.err.ticks) does.run;
        puts = does.puts;
        report = does.report;
      };
      same_forwarder = does.same_forwarder;
      same_wire = does.same_wire;
    }

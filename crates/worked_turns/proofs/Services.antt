-- A call of the service for one turn, in which nothing arrives and a tick has nothing to do, with
-- the line that it prints. Neighbours want one turn more, print another number, or lose the octets
-- before the line.
use Rattle.std.proofs.Common.{◌≡◌, ℕ, List, [], ◌∷◌, ◌++◌, false, Some, Ok, refl, sym, ap, ◌∙◌, subst, append-nil, arith}
use Rattle.std.specs.Prelude.{get_or}
use Rattle.std.specs.Fmt.{digits}
use Rattle.std.specs.Io.KnownBytes.{Appends}
use Rattle.suffix_routes.specs.declared.peer.Peer.{Peer}
use Rattle.suffix_routes.specs.Values.{Config, default_limits}
use Rattle.step_values.specs.Values.{tick, Step}
use Rattle.step_table.specs.State.{Running}
use Rattle.step_table.specs.Steps.{initial}
use Rattle.step_table.specs.Row.{Row}
use Rattle.forwarder_commands.specs.ServingLoop.TheoremUse.Service.{ComesTo}
use Rattle.forwarder_commands.proofs.TheoremUse.CallerLemmas.{run_serves_on, came_more, nothing_more_is_due}
use Rattle.wires.specs.Wire.{nothing, Report, Journal, journal, silence, ◌then◌}
use Rattle.forwarder_commands.specs.ServingLoop.declared.counts.Served.{Served}
use Rattle.forwarder_commands.specs.ServingLoop.Events.{Taken, Turn}
use Rattle.forwarder_commands.specs.ServingLoop.Serving.{report_in, Serves}
use Rattle.forwarder_commands.specs.Counts.{counted_text}
use Rattle.forwarder_commands.specs.Service.{ServesAndReports}
use Rattle.worked_turns.proofs.Neighbours.{HoldsButFor}

-- ---- a turn of a new forwarder

abbrev server : Peer
server = record { ip = 192 ∷ 0 ∷ 2 ∷ 1 ∷ []; port = 53 }

abbrev pub config : Config
config = record {
  listen = server;
  limits = default_limits;
  routes = record { suffix = []; deny = false; servers = server ∷ [] } ∷ [];
}

abbrev ticks : Step
ticks = record {
  input = record { now = 1000; words = 7 ∷ []; event = tick };
  outcome = record { actions = []; unkept = 0; more = false };
}

abbrev took : Taken
took = record { input = ticks.input; answer = Some ticks.outcome; puts = [] }

abbrev turns : List Turn
turns = record { arrival = Some nothing; served = []; ticks = (took ∷ []) ∷ [] } ∷ []

abbrev pub before : Running
before = record { config = config; state = initial config }

abbrev pub after : Running
after = record { config = config; state = record (initial config) { moment = 1000 } }

row : Row config before.state ticks.input ticks.outcome after.state
row = record { octets = tt; happens = refl; more = refl }

-- the wire reported nothing before, and then this turn
abbrev pub silent : Journal
silent = journal (Some silence) 0

abbrev pub heard : Journal
heard = journal (Some (report_in turns)) 0

abbrev counts : Served
counts = record { turns = 1; lost = 0; refused_puts = 0; refused_arrivals = 0 }

serves : Serves before silent 1 (Ok counts) after heard
serves = record {
  all_turns = turns;
  ends = (refl, (record { served = tt; ticks = ((refl, tt), tt); few = omega arith }, tt), refl);
  config = refl;
  run = (after.state, row, refl);
  truly = run_serves_on config before.state after.state (ticks ∷ []) (after.state, row, refl);
  in_time = λ steps came. (nothing_more_is_due config (steps ++ []) ticks after.state (ticked steps came) refl, tt);
  puts = (refl, tt);
  report = record {
    reports = λ now is. (silence, refl, by now is);
    counts = omega arith;
    stays = λ same few. refl;
  };
}
  where
    ticked : (steps : List Step) → ComesTo config steps before.state
        → ComesTo config ((steps ++ []) ++ ticks ∷ []) after.state
    ticked steps came = came_more config config (steps ++ []) ((steps ++ []) ++ ticks ∷ []) before.state after.state
        ticks.input ticks.outcome refl refl
        (subst (λ (done : List Step). ComesTo config done before.state) (sym (append-nil steps)) came) row

    by : (now : Report) → Some (report_in turns) ≡ Some now → now ≡ silence then report_in turns
    by now is = let same : report_in turns ≡ now = cc in sym same

-- ---- its line

-- turns D lost 0, with this digit, and the end of the line
abbrev pub line : ℕ → List ℕ
line digit = 116 ∷ 117 ∷ 114 ∷ 110 ∷ 115 ∷ 32 ∷ digit ∷ 32 ∷ 108 ∷ 111 ∷ 115 ∷ 116 ∷ 32 ∷ 48 ∷ 10 ∷ []

-- the whole line has the digits of both numbers
line_is : counted_text 1 0 ++ 10 ∷ [] ≡ line 49
unfolding digits
line_is = refl

-- the digit of the turns, whatever was lost
pub digit_is : (lost : ℕ) → (get_or (counted_text 1 lost ++ 10 ∷ []) 6 0 ≡ 49)
    × (get_or (counted_text 2 lost ++ 10 ∷ []) 6 0 ≡ 50)
unfolding digits
digit_is lost = (refl, refl)

-- after the letter A
pub it_serves : ServesAndReports before silent 1 after heard (Some (65 ∷ [])) (Some (65 ∷ line 49))
unfolding digits
it_serves = record { counts = counts; serves = serves; reports = refl }

-- two turns were wanted
two_wanted : HoldsButFor (Serves before silent 2 (Ok counts) after heard)
    (ServesAndReports before silent 2 after heard (Some []) (Some (line 49)))
unfolding digits
two_wanted = (
  λ two. record { counts = counts; serves = two; reports = refl },
  λ h. by h.counts h.reports (ap (λ (c : Served). c.turns) h.serves.ends.2),
)
  where
    by : (c : Served) → line 49 ≡ counted_text c.turns c.lost ++ 10 ∷ [] → c.turns ≡ 2 → ⊥
    by c text is =
        let own : line 49 ≡ counted_text 2 c.lost ++ 10 ∷ [] =
        subst (λ (n : ℕ). line 49 ≡ counted_text n c.lost ++ 10 ∷ []) is text in
        let wrong : 49 ≡ 50 = ap (λ (xs : List ℕ). get_or xs 6 0) own ∙ (digit_is c.lost).1 in
        omega (arith, wrong)

-- the line tells two turns
two_told : HoldsButFor (Appends (Some []) (Some (line 50)) (counted_text 1 0 ++ 10 ∷ []))
    (ServesAndReports before silent 1 after heard (Some []) (Some (line 50)))
two_told = (
  λ reports. record { counts = counts; serves = serves; reports = reports },
  λ h. by h.counts h.reports (ap (λ (c : Served). c.turns) h.serves.ends.2),
)
  where
    by : (c : Served) → line 50 ≡ counted_text c.turns c.lost ++ 10 ∷ [] → c.turns ≡ 1 → ⊥
    by c text is =
        let own : line 50 ≡ counted_text 1 c.lost ++ 10 ∷ [] =
        subst (λ (n : ℕ). line 50 ≡ counted_text n c.lost ++ 10 ∷ []) is text in
        let wrong : 50 ≡ 49 = ap (λ (xs : List ℕ). get_or xs 6 0) own ∙ (digit_is c.lost).0 in
        omega (arith, wrong)

-- the letter before the line is lost
line_in_its_place : HoldsButFor (Appends (Some (65 ∷ [])) (Some (line 49)) (counted_text 1 0 ++ 10 ∷ []))
    (ServesAndReports before silent 1 after heard (Some (65 ∷ [])) (Some (line 49)))
line_in_its_place = (
  λ reports. record { counts = counts; serves = serves; reports = reports },
  λ h. by (counted_text h.counts.turns h.counts.lost ++ 10 ∷ []) h.reports,
)
  where
    by : (text : List ℕ) → line 49 ≡ 65 ∷ text → ⊥
    by text is = let first : 116 ≡ 65 = ap (λ (xs : List ℕ). get_or xs 0 0) is in omega (arith, first)

-- Runs of lines follow from runs of single lines.
use Rattle.std.proofs.Common.{◌≡◌, ◌++◌, ◌∷◌, [], ℕ, suc, ◌+◌, ◌≤◌, List, length, Option, true, refl, sym, ap, subst, ◌∙◌, inl, inr, append-nil}
use Rattle.std.specs.Prelude.{Result, Ok, Err, nat_le}
use Rattle.std.proofs.lemmas.Bool.{le-leb}
use Rattle.std.specs.Io.KnownBytes.{Appends}
use Rattle.std.proofs.KnownBytes.{Appends-nil, Appends-trans}
use Rattle.suffix_routes.specs.Values.{Config as ConfigValue}
use Rattle.step_values.specs.Values.{Event, StepInput, Outcome, Step}
use Rattle.forwarder_core.specs.StepTable.State.{State, Running}
use Rattle.forwarder_core.specs.StepTable.Row.{Row}
use Rattle.forwarder_core.specs.TheoremSound.Runs.{Run}
use Rattle.replay_script.specs.declared.events.TheConstants.{MOST_LINES}
use Rattle.replay_script.specs.declared.events.Refusal.TheVariants.{Form}
use Rattle.replay_script.specs.declared.fault.ReplayFault.{ReplayFault}
use Rattle.replay_script.specs.declared.fault.ReplayFault.TheVariants.{Config, Line, Memory, Device}
use Rattle.replay_script.specs.Lines.{IsLineFault, line_in}
use Rattle.replay_script.specs.Printing.{Writes, printed_all, printed_steps}
use Rattle.replay_script.specs.Runs.{RunsLines, AreOfLines, IsRefusedAfter, Ends, Prints, input_in}
use Rattle.replay_script.specs.Words.{words_of}

-- ---- the input read from a line

pub input_read : (n : ℕ) (line : List ℕ) (now : ℕ) (words : List ℕ) (event : Event) → n ≤ MOST_LINES → words ≡ words_of n
    → line_in line ≡ Ok (now, event) → input_in n line ≡ Ok (record { now = now; words = words; event = event })
input_read n line now words event few same read =
    let test : nat_le n MOST_LINES ≡ true = le-leb n MOST_LINES few in
    rw (test, read, same) refl

pub input_refused : (n : ℕ) (line : List ℕ) → n ≤ MOST_LINES → line_in line ≡ Err Form → input_in n line ≡ Err Form
input_refused n line few read =
    let test : nat_le n MOST_LINES ≡ true = le-leb n MOST_LINES few in
    rw (test, read) refl

-- ---- a line

-- No step was made, for this fault.
pub nothing_run : (n : ℕ) (line : List ℕ) (more : List (List ℕ)) (before : Running) (held : Option (List ℕ)) (fault : ReplayFault)
    → Ends n (line ∷ more) [] (Err fault) → RunsLines n (line ∷ more) before held (Err fault) before held
nothing_run n line more before held (Config fault) ends = absurd ends
nothing_run n line more before held (Line refused) ends = record { steps = []; config = refl; run = refl; lines_are = tt; ends = ends; prints = Appends-nil held }
nothing_run n line more before held Memory ends = record { steps = []; config = refl; run = refl; lines_are = tt; ends = ends; prints = ([], refl, Appends-nil held) }
nothing_run n line more before held Device ends = record { steps = []; config = refl; run = refl; lines_are = tt; ends = ends; prints = ([], refl, Appends-nil held) }

line_fault_ends : (n : ℕ) (line : List ℕ) (fault : ReplayFault) → n ≤ MOST_LINES → IsLineFault n line fault → Ends n (line ∷ []) [] (Err fault)
line_fault_ends n line (Config fault) few is = absurd is
line_fault_ends n line (Line refused) few is = (is.0, input_refused n line few is.1)
line_fault_ends n line Memory few is = tt
line_fault_ends n line Device few is = tt

-- A line refused without a step.
pub line_refused : (n : ℕ) (line : List ℕ) (before : Running) (held : Option (List ℕ)) (fault : ReplayFault) → n ≤ MOST_LINES
    → IsLineFault n line fault → RunsLines n (line ∷ []) before held (Err fault) before held
line_refused n line before held fault few is = nothing_run n line [] before held fault (line_fault_ends n line fault few is)

step_ends : (n : ℕ) (line : List ℕ) (t : Step) (text : List ℕ) (r : Result (Unit {0}) ReplayFault) (held held' : Option (List ℕ))
    → Writes held text r held' → Ends n (line ∷ []) (t ∷ []) r
step_ends n line t text (Ok done) held held' writes = refl
step_ends n line t text (Err (Config fault)) held held' writes = absurd writes.0
step_ends n line t text (Err (Line refused)) held held' writes = absurd writes.0
step_ends n line t text (Err Memory) held held' writes = tt
step_ends n line t text (Err Device) held held' writes = tt

step_prints : (n : ℕ) (t : Step) (r : Result (Unit {0}) ReplayFault) (held held' : Option (List ℕ))
    → Writes held (printed_all n t.outcome.actions) r held' → Prints held n (t ∷ []) r held'
step_prints n t (Ok done) held held' writes =
    subst (λ (text : List ℕ). Appends held held' text) (sym (append-nil (printed_all n t.outcome.actions))) writes
step_prints n t (Err (Config fault)) held held' writes = absurd writes.0
step_prints n t (Err (Line refused)) held held' writes = absurd writes.0
step_prints n t (Err Memory) held held' writes = (writes.1.0, inl (refl, writes.1.1), writes.1.2)
step_prints n t (Err Device) held held' writes = (writes.1.0, inl (refl, writes.1.1), writes.1.2)

-- A line with a step made.
pub line_run : (n : ℕ) (line : List ℕ) (before after : Running) (held held' : Option (List ℕ)) (r : Result (Unit {0}) ReplayFault)
    (h : StepInput) (o : Outcome) → input_in n line ≡ Ok h → Row before.config before.state h o after.state
    → after.config ≡ before.config → Writes held (printed_all n o.actions) r held'
    → RunsLines n (line ∷ []) before held r after held'
line_run n line before after held held' r h o input row config writes =
    let t : Step = record { input = h; outcome = o } in
    record {
      steps = t ∷ [];
      config = config;
      run = (after.state, row, refl);
      lines_are = (input, tt);
      ends = step_ends n line t (printed_all n o.actions) r held held' writes;
      prints = step_prints n t r held held' writes;
    }

-- ---- a line, and more

ends_more : (n : ℕ) (line : List ℕ) (lines : List (List ℕ)) (t : Step) (steps : List Step) (r : Result (Unit {0}) ReplayFault)
    → Ends (n + 1) lines steps r → Ends n (line ∷ lines) (t ∷ steps) r
ends_more n line lines t steps (Ok done) ends = ap suc ends
ends_more n line lines t steps (Err (Config fault)) ends = ends
ends_more n line lines t steps (Err (Line refused)) ends = ends
ends_more n line lines t steps (Err Memory) ends = tt
ends_more n line lines t steps (Err Device) ends = tt

prints_more : (n : ℕ) (t : Step) (steps : List Step) (r : Result (Unit {0}) ReplayFault) (held mid held' : Option (List ℕ))
    → Appends held mid (printed_all n t.outcome.actions) → Prints mid (n + 1) steps r held' → Prints held n (t ∷ steps) r held'
prints_more n t steps (Ok done) held mid held' first more = Appends-trans held mid held' _ _ first more
prints_more n t steps (Err (Config fault)) held mid held' first more = more
prints_more n t steps (Err (Line refused)) held mid held' first more = Appends-trans held mid held' _ _ first more
prints_more n t steps (Err Memory) held mid held' first more =
    (printed_all n t.outcome.actions ++ more.0, inr (more.0, refl, more.1), Appends-trans held mid held' _ _ first more.2)
prints_more n t steps (Err Device) held mid held' first more =
    (printed_all n t.outcome.actions ++ more.0, inr (more.0, refl, more.1), Appends-trans held mid held' _ _ first more.2)

after_step : (n : ℕ) (line : List ℕ) (lines : List (List ℕ)) (before mid after : Running) (held held1 held' : Option (List ℕ))
    (r : Result (Unit {0}) ReplayFault) (steps : List Step) → length steps ≡ 1 → mid.config ≡ before.config
    → Run before.config before.state steps mid.state → AreOfLines n (line ∷ []) steps → Appends held held1 (printed_steps n steps)
    → RunsLines (n + 1) lines mid held1 r after held' → RunsLines n (line ∷ lines) before held r after held'
after_step n line lines before mid after held held1 held' r [] one config run are prints more = absurd (cc)
after_step n line lines before mid after held held1 held' r (t ∷ []) one config run are prints more =
    let here = subst (λ (c : ConfigValue). Run c mid.state more.steps after.state) config more.run in
    let from = subst (λ (s : State). Run before.config s more.steps after.state) run.2 here in
    let first = subst (λ (text : List ℕ). Appends held held1 text) (append-nil (printed_all n t.outcome.actions)) prints in
    record {
      steps = t ∷ more.steps;
      config = more.config ∙ config;
      run = (run.0, run.1, from);
      lines_are = (are.0, more.lines_are);
      ends = ends_more n line lines t more.steps r more.ends;
      prints = prints_more n t more.steps r held held1 held' first more.prints;
    }
after_step n line lines before mid after held held1 held' r (t ∷ u ∷ steps) one config run are prints more = absurd are.1

-- A line run, and then the lines after.
pub line_then : (n : ℕ) (line : List ℕ) (lines : List (List ℕ)) (before mid after : Running) (held held1 held' : Option (List ℕ))
    (r : Result (Unit {0}) ReplayFault) → RunsLines n (line ∷ []) before held (Ok tt) mid held1
    → RunsLines (n + 1) lines mid held1 r after held' → RunsLines n (line ∷ lines) before held r after held'
line_then n line lines before mid after held held1 held' r first more =
    after_step n line lines before mid after held held1 held' r first.steps first.ends first.config first.run first.lines_are first.prints more

of_more_lines : (n : ℕ) (line : List ℕ) (lines : List (List ℕ)) (steps : List Step) → AreOfLines n (line ∷ []) steps → AreOfLines n (line ∷ lines) steps
of_more_lines n line lines [] are = tt
of_more_lines n line lines (t ∷ []) are = (are.0, tt)
of_more_lines n line lines (t ∷ u ∷ steps) are = absurd are.1

refused_before_more : (n : ℕ) (line : List ℕ) (lines : List (List ℕ)) (steps : List Step) (refused : ℕ) → IsRefusedAfter n (line ∷ []) steps refused
    → IsRefusedAfter n (line ∷ lines) steps refused
refused_before_more n line lines [] refused is = is
refused_before_more n line lines (t ∷ steps) refused is = absurd is

ends_before_more : (n : ℕ) (line : List ℕ) (lines : List (List ℕ)) (steps : List Step) (fault : ReplayFault) → Ends n (line ∷ []) steps (Err fault)
    → Ends n (line ∷ lines) steps (Err fault)
ends_before_more n line lines steps (Config fault) ends = ends
ends_before_more n line lines steps (Line refused) ends = refused_before_more n line lines steps refused ends
ends_before_more n line lines steps Memory ends = tt
ends_before_more n line lines steps Device ends = tt

-- A line at the end of the run, before further lines.
pub line_last : (n : ℕ) (line : List ℕ) (lines : List (List ℕ)) (before after : Running) (held held' : Option (List ℕ)) (fault : ReplayFault)
    → RunsLines n (line ∷ []) before held (Err fault) after held' → RunsLines n (line ∷ lines) before held (Err fault) after held'
line_last n line lines before after held held' fault h = record {
  steps = h.steps;
  config = h.config;
  run = h.run;
  lines_are = of_more_lines n line lines h.steps h.lines_are;
  ends = ends_before_more n line lines h.steps fault h.ends;
  prints = h.prints;
}

-- ---- no line

pub no_line : (n : ℕ) (before : Running) (held : Option (List ℕ)) → RunsLines n [] before held (Ok tt) before held
no_line n before held = record { steps = []; config = refl; run = refl; lines_are = tt; ends = refl; prints = Appends-nil held }

-- A line too many.
pub one_too_many : (n : ℕ) (lines : List (List ℕ)) (before : Running) (held : Option (List ℕ)) → n ≡ MOST_LINES + 1
    → (line : List ℕ) × ((more : List (List ℕ)) × (lines ≡ line ∷ more)) → RunsLines n lines before held (Err (Line (MOST_LINES + 1))) before held
one_too_many n lines before held last some =
    let first : RunsLines (MOST_LINES + 1) (some.0 ∷ some.1.0) before held (Err (Line (MOST_LINES + 1))) before held = nothing_run (MOST_LINES + 1) some.0 some.1.0 before held (Line (MOST_LINES + 1)) (refl, refl) in
    subst (λ (ls : List (List ℕ)). RunsLines n ls before held (Err (Line (MOST_LINES + 1))) before held) (sym some.1.1)
    (subst (λ (m : ℕ). RunsLines m (some.0 ∷ some.1.0) before held (Err (Line (MOST_LINES + 1))) before held) (sym last) first)

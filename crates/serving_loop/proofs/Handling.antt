-- The effects of the parts of a turn, put together.
use Rattle.std.proofs.Common.{◌≡◌, ◌∙◌, refl, sym, ap, subst, ℕ, zero, suc, ◌+◌, ◌*◌, ◌<◌, ◌≤◌, ◌⊎◌, inl, inr, List, [], ◌∷◌, ◌++◌, length, append_assoc, append-nil, Option, Some, None, Bool, true, false, arith}
use Rattle.std.specs.Prelude.{option_map, map, IsSome}
use Rattle.std.specs.List.{AllByRecursion}
use Rattle.std.proofs.lemmas.List.{length-append}
use Rattle.std.proofs.lemmas.List.Elements.{filter_map-append}
use Rattle.outstanding.specs.declared.ask.Path.{Path}
use Rattle.outstanding.specs.Values.{Ask}
use Rattle.outstanding.specs.Lists.{on_path as ask_on}
use Rattle.suffix_routes.specs.Values.{Config}
use Rattle.step_values.specs.Values.{Event, from_client, delivery, path_failed, tick, restart, Action, Outcome, Step}
use Rattle.forwarder_core.specs.StepTable.State.{State, Running}
use Rattle.forwarder_core.specs.StepTable.Row.{Row, is_due_at, effective}
use Rattle.forwarder_core.specs.StepTable.Progress.{left_to_do, ServesSomething}
use Rattle.forwarder_core.specs.TheoremSound.Runs.{Run}
use Rattle.serving_loop.specs.declared.counts.Served.{Served}
use Rattle.wires.specs.Wire.{Report, Journal, Put, ◌then◌, ReportsMore, moment_was, words_were}
use Rattle.serving_loop.specs.Events.{Taken, PutsItsActions, step_in, steps_in, failed_of, more_in, joined, IsChain, AreTicks}
use Rattle.serving_loop.specs.Serving.{Standing, Does, Adds, left, report_of_all, lost_in, refused_in}
use Rattle.serving_loop.specs.Handing.{report_of_puts, Puts, most_left, IsOwn, StepsDown, Hands, HandsOn, Ticks}
use Rattle.serving_loop.proofs.Journal.{reports_nothing, reports_on, report_append, adds_none, adds_more, lost_append, refused_append}
use Rattle.serving_loop.proofs.Quiet.{IsIdle, quiet_tick, quiet_path}

-- ---- one after another

pub run_append : (c : Config) (s m s' : State) (xs ys : List Step) → Run c s xs m → Run c m ys s' → Run c s (xs ++ ys) s'
run_append c s m s' [] ys first more = subst (λ (t : State). Run c t ys s') first more
run_append c s m s' (x ∷ xs) ys first more = (first.0, first.1, run_append c first.0 m s' xs ys first.2 more)

pub all_append : (xs ys : List Taken) → AllByRecursion PutsItsActions xs → AllByRecursion PutsItsActions ys → AllByRecursion PutsItsActions (xs ++ ys)
all_append [] ys first more = more
all_append (x ∷ xs) ys first more = (first.0, all_append xs ys first.1 more)

pub does_nothing : (x : Standing) → Does x [] x
does_nothing x = record {
  config = refl;
  run = refl;
  puts = tt;
  report = reports_nothing x.report;
  lost = adds_none _ _ refl;
  refused_puts = adds_none _ _ refl;
  turns = refl;
  refused_arrivals = refl;
  same_forwarder = refl;
  same_wire = refl;
}

pub does_more : (x y z : Standing) (xs ys : List Taken) → Does x xs y → Does y ys z → Does x (xs ++ ys) z
does_more x y z xs ys first more = record {
  config = more.config ∙ first.config;
  run = subst (λ (steps : List Step). Run x.running.config x.running.state steps z.running.state) (sym (filter_map-append step_in xs ys))
      (run_append x.running.config x.running.state y.running.state z.running.state (steps_in xs) (steps_in ys) first.run (subst (λ (c : Config). Run c y.running.state (steps_in ys) z.running.state) first.config more.run));
  puts = all_append xs ys first.puts more.puts;
  report = subst (λ (t : Report). ReportsMore x.report t z.report) (sym (report_append xs ys)) (reports_on x.report y.report z.report (report_of_all xs) (report_of_all ys) first.report more.report);
  lost = λ le. let sum = lost_append xs ys in let both = adds_more x.counts.lost y.counts.lost z.counts.lost (lost_in xs) (lost_in ys) first.lost more.lost le in omega (arith, sum, both);
  refused_puts = λ le. let sum = refused_append xs ys in let both = adds_more x.counts.refused_puts y.counts.refused_puts z.counts.refused_puts (refused_in xs) (refused_in ys) first.refused_puts more.refused_puts le in omega (arith, sum, both);
  turns = more.turns ∙ first.turns;
  refused_arrivals = more.refused_arrivals ∙ first.refused_arrivals;
  same_forwarder = more.same_forwarder ∙ first.same_forwarder;
  same_wire = more.same_wire ∙ first.same_wire;
}

-- ---- a single event

none_put : (puts : List Put) → map (λ (p : Put). p.action) puts ≡ [] → failed_of None puts ≡ None
none_put [] is = refl
none_put (p ∷ puts) is = absurd (cc)

idle_down : (c : Config) (n : ℕ) (s s' : State) (config' : Config) (o : Outcome) (e : Event) (failed : Option Path) (puts : List Put) (more : Bool) → config' ≡ c → IsIdle n s o s' → failed ≡ failed_of None puts → map (λ (p : Put). p.action) puts ≡ o.actions → (e ≡ tick → more ≡ false)
    → StepsDown (record { config = c; state = s }) (record { config = config'; state = s' }) e failed more
idle_down c n s s' config' o e failed puts more same idle is actions end =
    inr (is ∙ none_put puts (actions ∙ idle.actions), ap (λ (k : Config). left_to_do k s') same ∙ ap (λ (t : State). left_to_do c t) idle.state, end)

by_due : (b : Bool) → (b ≡ true) ⊎ (b ≡ false)
by_due true = inl refl
by_due false = inr refl

by_ask : (o : Option Ask) → IsSome o ⊎ (o ≡ None)
by_ask None = inr refl
by_ask (Some a) = inl refl

-- a served event of the loop's own leaves less to do, or does nothing
own_falls : (c config' : Config) (s s' : State) (now : ℕ) (words : List ℕ) (e : Event) (o : Outcome) (failed : Option Path) (puts : List Put) → Row c s (record { now = now; words = words; event = e }) o s' → config' ≡ c
    → (ServesSomething c (effective now s) s e → left_to_do config' s' < left_to_do c s) → failed ≡ failed_of None puts → map (λ (p : Put). p.action) puts ≡ o.actions
    → IsOwn e → StepsDown (record { config = c; state = s }) (record { config = config'; state = s' }) e failed o.more
own_falls c config' s s' now words (from_client client octets) o failed puts row same less is actions own = absurd own
own_falls c config' s s' now words (delivery path from octets) o failed puts row same less is actions own = absurd own
own_falls c config' s s' now words restart o failed puts row same less is actions own = absurd own
own_falls c config' s s' now words (path_failed path) o failed puts row same less is actions own = by (by_ask (ask_on path s.asks))
  where
    by : (IsSome (ask_on path s.asks) ⊎ (ask_on path s.asks ≡ None)) → StepsDown (record { config = c; state = s }) (record { config = config'; state = s' }) (path_failed path) failed o.more
    by (inl there) = inl (less there)
    by (inr none) = idle_down c (effective now s) s s' config' o (path_failed path) failed puts o.more same (quiet_path c s s' now words path o row none) is actions (λ e. absurd (cc))
own_falls c config' s s' now words tick o failed puts row same less is actions own = by (by_due (is_due_at c (effective now s) s))
  where
    by : ((is_due_at c (effective now s) s ≡ true) ⊎ (is_due_at c (effective now s) s ≡ false)) → StepsDown (record { config = c; state = s }) (record { config = config'; state = s' }) tick failed o.more
    by (inl due) = inl (less due)
    by (inr none) = let quiet = quiet_tick c s s' now words o row none in idle_down c (effective now s) s s' config' o tick failed puts o.more same quiet.0 is actions (λ _. quiet.1)

reports_step : (o p q r : Journal) (now : ℕ) (words : List ℕ) (x : Taken) → x.input.now ≡ now → x.input.words ≡ words → ReportsMore o (moment_was now) p → ReportsMore p (words_were words) q → ReportsMore q (report_of_puts x.puts) r → ReportsMore o (report_of_all (x ∷ [])) r
reports_step o p q r now words x same_now same_words a b c =
    subst (λ (t : Report). ReportsMore o t r) (λ i. record { arrivals = []; puts = sym (append-nil x.puts) i; moments = sym same_now i ∷ []; words = sym same_words i ∷ [] })
    (reports_on o q r (moment_was now then words_were words) (report_of_puts x.puts) (reports_on o p q (moment_was now) (words_were words) a b) c)

pub hands_ok : (x y z : Standing) (p : Journal) (now : ℕ) (words : List ℕ) (e : Event) (out : Outcome) (failed : Option Path) (actions : List Action) (more : Bool) → actions ≡ out.actions → more ≡ out.more
    → Row x.running.config x.running.state (record { now = now; words = words; event = e }) out y.running.state → y.running.config ≡ x.running.config → left x.running ≤ most_left x.running
    → (ServesSomething x.running.config (effective now x.running.state) x.running.state e → left_to_do x.running.config y.running.state < left x.running)
    → ReportsMore x.report (moment_was now) p → ReportsMore p (words_were words) y.report → y.counts ≡ x.counts → y.of_forwarder ≡ x.of_forwarder → y.of_wire ≡ x.of_wire
    → Puts None actions failed y z → Hands e failed more x z
hands_ok x y z p now words e out failed actions more is_put is_more row config bounded less a b counts forwarder wire puts =
    let taken : Taken = record { input = record { now = now; words = words; event = e }; answer = Some out; puts = puts.puts } in
    let refused = ap (λ (v : Served). v.refused_puts) counts in
    let put = puts.actions_are ∙ is_put in
    record {
      taken = taken;
      event_is = refl;
      failed_is = puts.failed_is;
      more_is = is_more;
      does = record {
        config = ap (λ (r : Running). r.config) puts.running ∙ config;
        run = (y.running.state, row, ap (λ (r : Running). r.state) puts.running);
        puts = (put, tt);
        report = reports_step x.report p y.report z.report now words taken refl refl a b puts.reports;
        lost = adds_none _ _ (puts.lost ∙ ap (λ (v : Served). v.lost) counts);
        refused_puts = λ le. let sum = puts.refused (omega (arith, refused, le)) in omega (arith, refused, sum);
        turns = puts.turns ∙ ap (λ (v : Served). v.turns) counts;
        refused_arrivals = puts.arrivals ∙ ap (λ (v : Served). v.refused_arrivals) counts;
        same_forwarder = puts.same_forwarder ∙ forwarder;
        same_wire = puts.same_wire ∙ wire;
      };
      bounded = bounded;
      falls = λ own. subst (λ (m : Bool). StepsDown x.running z.running e failed m) (sym is_more) (subst (λ (r : Running). StepsDown x.running r e failed out.more) (sym puts.running)
          (own_falls x.running.config y.running.config x.running.state y.running.state now words e out failed puts.puts row config (λ serves. let fewer = less serves in let same = ap (λ (k : Config). left_to_do k y.running.state) config in omega (arith, fewer, same)) puts.failed_is put own));
    }

pub hands_err : (x z : Standing) (p : Journal) (now : ℕ) (words : List ℕ) (e : Event)
    → z.running ≡ x.running → left x.running ≤ most_left x.running → ReportsMore x.report (moment_was now) p → ReportsMore p (words_were words) z.report
    → Adds x.counts.lost 1 z.counts.lost → z.counts.refused_puts ≡ x.counts.refused_puts → z.counts.turns ≡ x.counts.turns → z.counts.refused_arrivals ≡ x.counts.refused_arrivals → z.of_forwarder ≡ x.of_forwarder → z.of_wire ≡ x.of_wire
    → Hands e None false x z
hands_err x z p now words e same bounded a b lost refused turns arrivals forwarder wire =
    let taken : Taken = record { input = record { now = now; words = words; event = e }; answer = None; puts = [] } in
    record {
      taken = taken;
      event_is = refl;
      failed_is = refl;
      more_is = refl;
      does = record {
        config = ap (λ (r : Running). r.config) same;
        run = ap (λ (r : Running). r.state) same;
        puts = (refl, tt);
        report = reports_step x.report p z.report z.report now words taken refl refl a b (reports_nothing z.report);
        lost = λ le. let one = lost le in omega (arith, one);
        refused_puts = adds_none _ _ refused;
        turns = turns;
        refused_arrivals = arrivals;
        same_forwarder = forwarder;
        same_wire = wire;
      };
      bounded = bounded;
      falls = λ own. inr (refl, ap left same, λ _. refl);
    }

-- ---- an event, and a failure after the event

abbrev pub if_failed : Option Path → ℕ
if_failed None = 0
if_failed (Some path) = 1

at_most_one : (o : Option Path) → if_failed o ≤ 1
at_most_one None = omega arith
at_most_one (Some path) = omega arith

-- so far: the first event and the events after it; a path's failure comes next, if any
pub record HandsSoFar (event : Event) (more : Bool) (failed : Option Path) (before after : Standing) : Type 0 where
  pub first : Taken
  pub others : List Taken
  pub opens : (rest : List Taken) → IsChain (option_map path_failed failed) rest → IsChain (Some event) (first ∷ others ++ rest)
  pub more_is : more ≡ more_in first.answer
  pub does : Does before (first ∷ others) after
  pub bounded : left before.running ≤ most_left before.running
  pub falls : event ≡ tick → more ≡ true → left after.running < left before.running

pub hands_first : (event : Event) (failed : Option Path) (more : Bool) (before after : Standing) → Hands event failed more before after → HandsSoFar event more failed before after
hands_first event failed more before after h = record {
  first = h.taken;
  others = [];
  opens = λ rest next. (h.event_is, subst (λ (o : Option Path). IsChain (option_map path_failed o) rest) h.failed_is next);
  more_is = h.more_is;
  does = h.does;
  bounded = h.bounded;
  falls = λ is on. by is on (h.falls (subst IsOwn (sym is) tt));
}
  where
    by : event ≡ tick → more ≡ true → StepsDown before.running after.running event failed more → left after.running < left before.running
    by is on (inl less) = less
    by is on (inr quiet) = let off = quiet.2 is in absurd (cc)

pub hands_again : (event : Event) (more : Bool) (path : Path) (failed : Option Path) (further : Bool) (x y z : Standing) → HandsSoFar event more (Some path) x y → Hands (path_failed path) failed further y z → HandsSoFar event more failed x z
hands_again event more path failed further x y z so_far h = record {
  first = so_far.first;
  others = so_far.others ++ h.taken ∷ [];
  opens = λ rest next. subst (λ (taken : List Taken). IsChain (Some event) (so_far.first ∷ taken)) (sym (append_assoc so_far.others (h.taken ∷ []) rest))
      (so_far.opens (h.taken ∷ rest) (h.event_is, subst (λ (o : Option Path). IsChain (option_map path_failed o) rest) h.failed_is next));
  more_is = so_far.more_is;
  does = does_more x y z (so_far.first ∷ so_far.others) (h.taken ∷ []) so_far.does h.does;
  bounded = so_far.bounded;
  falls = λ is on. let less = so_far.falls is on in let down = not_more (h.falls tt) in omega (arith, less, down);
}
  where
    not_more : StepsDown y.running z.running (path_failed path) failed further → left z.running ≤ left y.running
    not_more (inl less) = omega (arith, less)
    not_more (inr quiet) = let same = quiet.1 in omega (arith, same)

pub fails_less : (path : Path) (failed : Option Path) (further : Bool) (y z : Standing) → Hands (path_failed path) failed further y z → 2 * left z.running + if_failed failed < 2 * left y.running + 1
fails_less path failed further y z h = by (h.falls tt)
  where
    by : StepsDown y.running z.running (path_failed path) failed further → 2 * left z.running + if_failed failed < 2 * left y.running + 1
    by (inl less) = let one = at_most_one failed in omega (arith, less, one)
    by (inr quiet) = let same = quiet.1 in let none = ap if_failed quiet.0 in omega (arith, same, none)

pub hands_on : (event : Event) (more : Bool) (before after : Standing) → HandsSoFar event more None before after → HandsOn event more before after
hands_on event more before after h = record {
  chain = h.first ∷ h.others;
  is_chain = subst (λ (taken : List Taken). IsChain (Some event) (h.first ∷ taken)) (append-nil h.others) (h.opens [] tt);
  more_is = h.more_is;
  does = h.does;
  bounded = h.bounded;
  falls = h.falls;
}

-- ---- ticks

pub joined_more : (chains : List (List Taken)) (chain : List Taken) → joined (chains ++ chain ∷ []) ≡ joined chains ++ chain
joined_more [] chain = append-nil chain
joined_more (x ∷ chains) chain = ap (λ (taken : List Taken). x ++ taken) (joined_more chains chain) ∙ sym (append_assoc x (joined chains) chain)

pub record TicksSoFar (before after : Standing) : Type 0 where
  pub chains : List (List Taken)
  pub opens : (rest : List (List Taken)) → AreTicks true rest → AreTicks true (chains ++ rest)
  pub does : Does before (joined chains) after
  pub few : 1 ≤ length chains → length chains + left after.running ≤ most_left before.running

pub ticks_none : (x : Standing) → TicksSoFar x x
ticks_none x = record { chains = []; opens = λ rest next. next; does = does_nothing x; few = λ le. absurd (omega (arith, le)) }

most_same : (x y : Running) → y.config ≡ x.config → most_left y ≡ most_left x
most_same x y is = ap (λ (c : Config). c.limits.questions + c.limits.inquiries * c.limits.tries) is

does_joined : (x y z : Standing) (chains : List (List Taken)) (chain : List Taken) → Does x (joined chains) y → Does y chain z → Does x (joined (chains ++ chain ∷ [])) z
does_joined x y z chains chain first more = subst (λ (taken : List Taken). Does x taken z) (sym (joined_more chains chain)) (does_more x y z (joined chains) chain first more)

few_more : (k n l m : ℕ) → (1 ≤ k → k + l ≤ m) → l ≤ m → n < l → k + 1 + n ≤ m
few_more zero n l m few bound less = omega (arith, bound, less)
few_more (suc k) n l m few bound less = let le = few (omega arith) in omega (arith, le, less)

pub ticks_again : (x y z : Standing) (b : Bool) → b ≡ true → TicksSoFar x y → HandsOn tick b y z → TicksSoFar x z
ticks_again x y z b on so_far h = record {
  chains = so_far.chains ++ h.chain ∷ [];
  opens = λ rest next. subst (AreTicks true) (sym (append_assoc so_far.chains (h.chain ∷ []) rest)) (so_far.opens (h.chain ∷ rest) (h.is_chain, subst (λ (m : Bool). AreTicks m rest) (sym on ∙ h.more_is) next));
  does = does_joined x y z so_far.chains h.chain so_far.does h.does;
  few = λ le.
      let long = length-append so_far.chains (h.chain ∷ []) in
      let bound = h.bounded in
      let same = most_same x.running y.running so_far.does.config in
      let sum = few_more (length so_far.chains) (left z.running) (left y.running) (most_left x.running) so_far.few (omega (arith, bound, same)) (h.falls refl on) in
      omega (arith, long, sum);
}

few_at_last : (k l m : ℕ) → (1 ≤ k → k + l ≤ m) → k ≤ m
few_at_last zero l m few = omega arith
few_at_last (suc k) l m few = let le = few (omega arith) in omega (arith, le)

pub ticks_end : (x y z : Standing) (b : Bool) → b ≡ false → TicksSoFar x y → HandsOn tick b y z → Ticks x z
ticks_end x y z b off so_far h = record {
  chains = so_far.chains ++ h.chain ∷ [];
  are_ticks = so_far.opens (h.chain ∷ []) (h.is_chain, subst (λ (m : Bool). AreTicks m []) (sym off ∙ h.more_is) tt);
  does = does_joined x y z so_far.chains h.chain so_far.does h.does;
  few = let long = length-append so_far.chains (h.chain ∷ []) in
      let le = few_at_last (length so_far.chains) (left y.running) (most_left x.running) so_far.few in
      omega (arith, long, le);
}

-- A wire's report grows, and a growing count stays at its last value.
use Rattle.std.proofs.Common.{◌≡◌, ◌∙◌, refl, sym, ap, ℕ, zero, suc, ◌+◌, ◌≤◌, length, List, [], ◌∷◌, ◌++◌, append_assoc, append-nil, Option, Some, None, false, arith}
use Rattle.std.specs.Prelude.{option_map, map, slice_get}
use Rattle.std.proofs.lemmas.List.{map-append}
use Rattle.outstanding.specs.declared.ask.Path.{Path}
use Rattle.step_values.specs.Values.{SentAsk, Action}
use Rattle.wires.specs.Wire.{Report, Journal, Put, silence, ◌then◌, report_then, ReportsMore}
use Rattle.serving_loop.specs.Events.{Taken, later, refused_path, failed_of}
use Rattle.serving_loop.specs.Serving.{Standing, Adds, report_of, report_of_all, lost_in, refused_by, refused_of, refused_in}
use Rattle.serving_loop.specs.Handing.{report_of_puts, Puts}

-- ---- reports

pub then_silence : (a : Report) → a then silence ≡ a
then_silence a i = record { arrivals = append-nil a.arrivals i; puts = append-nil a.puts i; moments = append-nil a.moments i; words = append-nil a.words i }

pub then_then : (a b c : Report) → (a then b) then c ≡ a then (b then c)
then_then a b c i = record { arrivals = append_assoc a.arrivals b.arrivals c.arrivals i; puts = append_assoc a.puts b.puts c.puts i; moments = append_assoc a.moments b.moments c.moments i; words = append_assoc a.words b.words c.words i }

pub report_no_more : (o : Option Report) → o ≡ report_then o silence
report_no_more None = refl
report_no_more (Some report) = ap (λ (t : Report). Some t) (sym (then_silence report))

pub report_twice : (o : Option Report) (a b : Report) → report_then (report_then o a) b ≡ report_then o (a then b)
report_twice None a b = refl
report_twice (Some report) a b = ap (λ (t : Report). Some t) (then_then report a b)

pub reports_nothing : (o : Journal) → ReportsMore o silence o
reports_nothing o = record {
  reports = λ now is. (now, is, sym (then_silence now));
  counts = omega arith;
  stays = λ same below. report_no_more o.report;
}

pub reports_on : (o p q : Journal) (a b : Report) → ReportsMore o a p → ReportsMore p b q → ReportsMore o (a then b) q
reports_on o p q a b first more =
    let one = first.counts in
    let two = more.counts in
    record {
      reports = λ now is.
          let last = more.reports now is in
          let was = first.reports last.0 last.1 in
          (was.0, was.1, last.2 ∙ ap (λ (t : Report). t then b) was.2 ∙ then_then was.0 a b);
      counts = omega (arith, one, two);
      stays = λ same below.
          let mid : p.faults ≡ o.faults = omega (arith, one, two, same) in
          more.stays (omega (arith, mid, same)) (omega (arith, mid, below))
          ∙ ap (λ (t : Option Report). report_then t b) (first.stays mid below)
          ∙ report_twice o.report a b;
    }

pub report_append : (xs ys : List Taken) → report_of_all (xs ++ ys) ≡ report_of_all xs then report_of_all ys
report_append [] ys = refl
report_append (x ∷ xs) ys = ap (λ (t : Report). report_of x then t) (report_append xs ys) ∙ sym (then_then (report_of x) (report_of_all xs) (report_of_all ys))

-- ---- counts

pub adds_none : (a b : ℕ) → b ≡ a → Adds a 0 b
adds_none a b same le = omega (arith, same, le)

pub adds_more : (a b c m n : ℕ) → Adds a m b → Adds b n c → Adds a (m + n) c
adds_more a b c m n first more le =
    let mid = first le in
    let end = more (omega (arith, mid)) in
    omega (arith, mid, end)

pub lost_append : (xs ys : List Taken) → lost_in (xs ++ ys) ≡ lost_in xs + lost_in ys
lost_append [] ys = omega arith
lost_append (x ∷ xs) ys = let rest = lost_append xs ys in omega (arith, rest)

pub refused_of_append : (xs ys : List Put) → refused_of (xs ++ ys) ≡ refused_of xs + refused_of ys
refused_of_append [] ys = omega arith
refused_of_append (x ∷ xs) ys = let rest = refused_of_append xs ys in omega (arith, rest)

pub refused_append : (xs ys : List Taken) → refused_in (xs ++ ys) ≡ refused_in xs + refused_in ys
refused_append [] ys = omega arith
refused_append (x ∷ xs) ys = let rest = refused_append xs ys in omega (arith, rest)

-- ---- the puts

-- A list with nothing at a place ends before it.
pub ends_before : {X : Type 0} (xs : List X) (i : ℕ) → slice_get xs i ≡ None → length xs ≤ i
ends_before [] i none = omega arith
ends_before (x ∷ xs) zero none = absurd (cc)
ends_before (x ∷ xs) (suc i) none = let rest = ends_before xs i none in omega (arith, rest)

pub refused_ask : (o : Option SentAsk) (path : Path) → Some path ≡ option_map (λ (ask : SentAsk). ask.path) o → refused_by o false ≡ 0
refused_ask None path is = absurd (cc)
refused_ask (Some ask) path is = refl

pub refused_other : (o : Option SentAsk) → None ≡ option_map (λ (ask : SentAsk). ask.path) o → refused_by o false ≡ 1
refused_other None is = refl
refused_other (Some ask) is = absurd (cc)

failed_append : (last : Option Path) (xs ys : List Put) → failed_of last (xs ++ ys) ≡ failed_of (failed_of last xs) ys
failed_append last [] ys = refl
failed_append last (x ∷ xs) ys = failed_append (later last (refused_path x)) xs ys

pub puts_none : (x : Standing) → Puts None [] None x x
puts_none x = record { puts = []; actions_are = refl; failed_is = refl; running = refl; reports = reports_nothing x.report; refused = adds_none _ _ refl; turns = refl; lost = refl; arrivals = refl; same_forwarder = refl; same_wire = refl }

pub puts_more : (last mid end : Option Path) (xs ys : List Action) (x y z : Standing) → Puts last xs mid x y → Puts mid ys end y z → Puts last (xs ++ ys) end x z
puts_more last mid end xs ys x y z first more = record {
  puts = first.puts ++ more.puts;
  actions_are = map-append (λ (p : Put). p.action) first.puts more.puts ∙ ap (λ (zs : List Action). zs ++ map (λ (p : Put). p.action) more.puts) first.actions_are ∙ ap (λ (zs : List Action). xs ++ zs) more.actions_are;
  failed_is = more.failed_is ∙ ap (λ (o : Option Path). failed_of o more.puts) first.failed_is ∙ sym (failed_append last first.puts more.puts);
  running = more.running ∙ first.running;
  reports = reports_on x.report y.report z.report (report_of_puts first.puts) (report_of_puts more.puts) first.reports more.reports;
  refused = λ le. let sum = refused_of_append first.puts more.puts in let both = adds_more x.counts.refused_puts y.counts.refused_puts z.counts.refused_puts (refused_of first.puts) (refused_of more.puts) first.refused more.refused le in omega (arith, sum, both);
  turns = more.turns ∙ first.turns;
  lost = more.lost ∙ first.lost;
  arrivals = more.arrivals ∙ first.arrivals;
  same_forwarder = more.same_forwarder ∙ first.same_forwarder;
  same_wire = more.same_wire ∙ first.same_wire;
}

use Rattle.std.proofs.Common.{◌≡◌, ◌∷◌, [], ◌+◌, ◌<◌, ℕ, List, length, Bool, false, ap, sym, subst, arith}
use Rattle.std.specs.Prelude.{◌==◌, Err}
use Rattle.replay_script.specs.declared.fault.ReplayFault.TheVariants.{Line}
use Rattle.replay_script.specs.Runs.{lines_of, RunsLines}
use Rattle.replay_script.proofs.LinesOf.{has_line}
use Rattle.replay_script.proofs.RunLaws.{line_then, line_last, one_too_many}
use Rattle.std.proofs.lemmas.Result.{err_from_is_err_and}
use Rattle.replay_script.proofs.replay.run_lines.Goals as goal

not_empty : (b : Bool) (xs : List ℕ) → b ≡ (length xs == 0) → b ≡ false → 0 < length xs
not_empty b [] is differs = absurd (cc)
not_empty b (x ∷ xs) is differs = omega arith

pub returns-then-number-eq-MOST_LINES : goal.returns-then-number-eq-MOST_LINES
returns-then-number-eq-MOST_LINES g c =
    let last = ap (λ (n : ℕ). n + 1) c.if-number-eq-MOST_LINES.true in
    let some = not_empty c.is_empty.result c.loop-rest.rest.now c.is_empty.ensures c.loop-rest-test.true in
    c.loop-rest.invariant.goes (Err (Line 8192)) c.loop-rest.forwarder (g.W.Write.contents c.loop-rest.writer)
    (one_too_many (c.loop-rest.number + 1) (lines_of c.loop-rest.rest.now) c.loop-rest.forwarder (g.W.Write.contents c.loop-rest.writer) last
    (has_line c.loop-rest.rest.now some))

pub returns-in_err-run_line : goal.returns-in_err-run_line
returns-in_err-run_line g c =
    let p = err_from_is_err_and c.from_residual.result c.from_residual.ensures.1 in
    let fault = c.in_err-run_line.field-0.0 in
    let after = c.run_line.new.forwarder in
    let held' = g.W.Write.contents c.run_line.new.writer in
    let line = c.next_line.result.0.now in
    let more = c.next_line.result.1.now in
    rw (p.1, p.2)
    (c.loop-rest.invariant.goes (Err fault) after held'
    (subst (λ (lines : List (List ℕ)). RunsLines (c.loop-rest.number + 1) lines c.loop-rest.forwarder (g.W.Write.contents c.loop-rest.writer) (Err fault) after held') (sym c.next_line.ensures.first)
    (line_last (c.loop-rest.number + 1) line (lines_of more) c.loop-rest.forwarder after (g.W.Write.contents c.loop-rest.writer) held' fault (rw c.in_err-run_line.was at c.run_line.ensures))))

pub loop-rest-preserved : goal.loop-rest-preserved
loop-rest-preserved g c =
    let line = c.next_line.result.0.now in
    let more = c.next_line.result.1.now in
    let mid = c.run_line.new.forwarder in
    let held = g.W.Write.contents c.loop-rest.writer in
    let held1 = g.W.Write.contents c.run_line.new.writer in
    record {
      few = omega (arith, c.loop-rest.invariant.few, c.if-number-eq-MOST_LINES.false);
      goes = λ r after held' h. c.loop-rest.invariant.goes r after held'
          (subst (λ (lines : List (List ℕ)). RunsLines (c.loop-rest.number + 1) lines c.loop-rest.forwarder held r after held') (sym c.next_line.ensures.first)
          (line_then (c.loop-rest.number + 1) line (lines_of more) c.loop-rest.forwarder mid after held held1 held' r (rw c.in_ok-run_line.was at c.run_line.ensures) h));
    }

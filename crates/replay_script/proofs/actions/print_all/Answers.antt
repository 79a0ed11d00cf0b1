use Rattle.std.proofs.Common.{◌+◌, ◌≤◌, List, ℕ, sym, subst, drop, length, arith}
use Rattle.std.specs.Prelude.{Ok, Err}
use Rattle.std.specs.Io.KnownBytes.{Appends}
use Rattle.std.proofs.KnownBytes.{Appends-nil}
use Rattle.std.proofs.lemmas.Result.{err_from_is_err_and}
use Rattle.step_values.specs.Values.{action_of, actions_of}
use Rattle.replay_script.specs.Printing.{Writes, printed, printed_all}
use Rattle.replay_script.proofs.Printed.{printed_next, printed_out}
use Rattle.replay_script.proofs.Written.{writes_more, writes_begun}
use Rattle.replay_script.proofs.actions.print_all.Goals as goal

pub returns-in_err-print : goal.returns-in_err-print
returns-in_err-print g c =
    let p = err_from_is_err_and c.from_residual.result c.from_residual.ensures.1 in
    let fault = c.in_err-print.field-0.0 in
    let next = printed_next c.args.line c.args.actions.now c.loop-place.place c.in-Some.action.now c.in-Some.ensures in
    rw (p.1, p.2)
    (c.loop-place.invariant (Err fault) (g.W.Write.contents c.print.new.writer)
    (subst (λ (t : List ℕ). Writes (g.W.Write.contents c.loop-place.writer) t (Err fault) (g.W.Write.contents c.print.new.writer)) (sym next)
    (writes_begun _ _ _ (printed_all c.args.line (actions_of (drop (c.loop-place.place + 1) c.args.actions.now))) fault c.in_err-print.ensures)))

pub loop-place-preserved : goal.loop-place-preserved
loop-place-preserved g c = λ r held' h.
    let next = printed_next c.args.line c.args.actions.now c.loop-place.place c.in-Some.action.now c.in-Some.ensures in
    c.loop-place.invariant r held'
    (subst (λ (t : List ℕ). Writes (g.W.Write.contents c.loop-place.writer) t r held') (sym next)
    (writes_more _ _ held' (printed c.args.line (action_of c.in-Some.action.now)) _ r c.in_ok-print.ensures h))

pub returns : goal.returns
returns g c =
    let count = c.len-place-end.ensures in
    let far = c.loop-place.auto.place-end in
    let test = c.loop-place-test.false in
    let past : length c.args.actions.now ≤ c.loop-place.place = omega (arith, count, far, test) in
    let held = g.W.Write.contents c.loop-place.writer in
    c.loop-place.invariant (Ok tt) held (subst (λ (t : List ℕ). Appends held held t) (sym (printed_out c.args.line c.args.actions.now c.loop-place.place past)) (Appends-nil held))

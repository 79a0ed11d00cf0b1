use Rattle.std.proofs.Common.{sym, arith}
use Rattle.std.proofs.lemmas.Result.{err_from_is_err_and}
use Rattle.dns_message.proofs.names.SizeLaws.{skip_fault, skip_end, skip_label, skip_pointer, skip_lost}
use Rattle.dns_message.proofs.names.whole.skip_name.Goals as goal

pub returns-in_err-step_at-clause-exact : goal.returns-in_err-step_at-clause-exact
returns-in_err-step_at-clause-exact c =
    let p = err_from_is_err_and c.from_residual.result c.from_residual.ensures.1 in
    let now = c.loop-len.invariant in
    rw (p.1, p.2) (skip_fault c.args.bytes.now c.loop-len.walk c.in_err-step_at.field-0.0 _ now.room (sym c.in_err-step_at.ensures.exact) now.read)

pub returns-in-End-clause-exact : goal.returns-in-End-clause-exact
returns-in-End-clause-exact c =
    let now = c.loop-len.invariant in
    skip_end c.args.bytes.now c.loop-len.walk _ now.room now.own (rw c.in-End.is at (sym c.in_ok-step_at.ensures.exact)) now.read

pub loop-len-preserved : goal.loop-len-preserved
loop-len-preserved c =
    let now = c.loop-len.invariant in
    let stays = rw c.in-Label.is at c.in_ok-step_at.ensures.stays in
    record {
      read = skip_label c.args.bytes.now c.loop-len.walk c.in-Label.len _ now.room (rw c.in-Label.is at (sym c.in_ok-step_at.ensures.exact)) now.read;
      room = omega (arith, stays);
      stop = now.stop;
      own = now.own;
      known = now.known;
    }

pub returns-in_err-size_of_name-in-Pointer-clause-exact : goal.returns-in_err-size_of_name-in-Pointer-clause-exact
returns-in_err-size_of_name-in-Pointer-clause-exact c =
    let p = err_from_is_err_and c.from_residual-in_err-size_of_name-in-Pointer.result c.from_residual-in_err-size_of_name-in-Pointer.ensures.1 in
    let now = c.loop-len.invariant in
    let lost = c.in_err-size_of_name-in-Pointer in
    rw (p.1, p.2)
    (skip_lost c.args.bytes.now c.loop-len.walk c.in-Pointer.target lost.field-0.0 _ now.room now.own (rw c.in-Pointer.is at (sym c.in_ok-step_at.ensures.exact)) (sym lost.ensures.exact) now.read)

pub returns-in-Pointer-clause-exact : goal.returns-in-Pointer-clause-exact
returns-in-Pointer-clause-exact c =
    let now = c.loop-len.invariant in
    let found = c.in_ok-size_of_name-in-Pointer in
    skip_pointer c.args.bytes.now c.loop-len.walk c.in-Pointer.target _ _ now.room now.own (rw c.in-Pointer.is at (sym c.in_ok-step_at.ensures.exact)) (sym found.ensures.exact) now.read

use Rattle.std.proofs.Common.{◌≤◌, length, refl, sym, ap, arith}
use Rattle.std.proofs.lemmas.Result.{err_from_is_err_and}
use Rattle.dns_message.specs.declared.names.walk.Bound.{Bound}
use Rattle.dns_message.proofs.names.SizeLaws.{left_first, left_fault, left_end, left_label, left_pointer, left_known, left_long, known_at}
use Rattle.dns_message.proofs.names.sizes.measure.Goals as goal

pub loop-len-init : goal.loop-len-init
loop-len-init c =
    rw c.after-walk.ensures
    (record { read = left_first c.args.bytes.now c.args.start c.args.used _ (omega arith); from = omega arith; room = c.requires.room; bound = refl })

pub returns-in_err-step_at : goal.returns-in_err-step_at
returns-in_err-step_at c =
    let p = err_from_is_err_and c.from_residual.result c.from_residual.ensures.1 in
    let now = c.loop-len.invariant in
    rw (p.1, p.2) (sym (left_fault c.args.bytes.now c.loop-len.walk _ _ c.in_err-step_at.field-0.0 now.room (sym c.in_err-step_at.ensures.exact) now.read))

pub returns-in-End : goal.returns-in-End
returns-in-End c =
    let now = c.loop-len.invariant in
    sym (left_end c.args.bytes.now c.loop-len.walk _ _ _ now.room (rw c.in-End.is at (sym c.in_ok-step_at.ensures.exact)) (omega (arith, now.from)) now.read)

pub loop-len-preserved-in-Label : goal.loop-len-preserved-in-Label
loop-len-preserved-in-Label c =
    let now = c.loop-len.invariant in
    let stays = rw c.in-Label.is at c.in_ok-step_at.ensures.stays in
    let stop : c.loop-len.walk.bound.stop ≤ length c.args.bytes.now = omega (arith, ap (λ (b : Bound). b.stop) now.bound) in
    record {
      read = left_label c.args.bytes.now c.loop-len.walk c.in-Label.len _ _ _ now.room stop (rw c.in-Label.is at (sym c.in_ok-step_at.ensures.exact)) (omega (arith, now.from)) now.read;
      from = omega (arith, now.from);
      room = omega (arith, stays);
      bound = now.bound;
    }

pub returns-then-walk-size-gt255 : goal.returns-then-walk-size-gt255
returns-then-walk-size-gt255 c =
    let now = c.loop-len.invariant in
    let known = known_at c.args.bytes.now c.args.sizes.now c.in-Pointer.target c.in-Some.size c.requires.known c.in-Some.ensures in
    sym (left_long c.args.bytes.now c.loop-len.walk c.in-Pointer.target c.in-Some.size _ _ now.room (rw c.in-Pointer.is at (sym c.in_ok-step_at.ensures.exact)) known (omega arith) now.read)

pub returns-in-Some : goal.returns-in-Some
returns-in-Some c =
    let now = c.loop-len.invariant in
    let known = known_at c.args.bytes.now c.args.sizes.now c.in-Pointer.target c.in-Some.size c.requires.known c.in-Some.ensures in
    sym (left_known c.args.bytes.now c.loop-len.walk c.in-Pointer.target c.in-Some.size _ _ _ now.room (rw c.in-Pointer.is at (sym c.in_ok-step_at.ensures.exact)) known (omega arith) (omega (arith, now.from)) now.read)

pub loop-len-preserved : goal.loop-len-preserved
loop-len-preserved c =
    let now = c.loop-len.invariant in
    rw c.after-walk-in-Pointer.ensures
    (record {
      read = left_pointer c.args.bytes.now c.loop-len.walk c.in-Pointer.target _ _ now.room (rw c.in-Pointer.is at (sym c.in_ok-step_at.ensures.exact)) now.read;
      from = now.from;
      room = now.room;
      bound = refl;
    })

use Rattle.std.proofs.Common.{◌-◌, ◌≤◌, length, refl, sym, ap, ◌∙◌, arith}
use Rattle.dns_message.specs.declared.names.walk.Bound.{Bound}
use Rattle.dns_message.proofs.names.SizeLaws.{left_first, left_here, left_label, left_pointer, kept}
use Rattle.dns_message.proofs.names.sizes.remember.Goals as goal

pub loop-walk-init : goal.loop-walk-init
loop-walk-init c =
    let first = left_first c.args.bytes.now c.args.start 0 0 refl in
    rw c.after-walk.ensures (record { read = first ∙ c.requires.read; back = omega arith; room = omega arith; bound = refl; known = c.requires.known })

pub overflow_sub-left : goal.overflow_sub-left
overflow_sub-left c =
    let now = c.loop-walk.invariant in
    let here = left_here c.args.bytes.now c.loop-walk.walk c.args.size now.bound now.back now.room now.read in
    omega (arith, here.some)

pub overflow_cast-left : goal.overflow_cast-left
overflow_cast-left c =
    let now = c.loop-walk.invariant in
    let here = left_here c.args.bytes.now c.loop-walk.walk c.args.size now.bound now.back now.room now.read in
    omega (arith, here.short)

pub loop-walk-preserved-in-Label-1 : goal.loop-walk-preserved-in-Label-1
loop-walk-preserved-in-Label-1 c =
    let now = c.loop-walk.invariant in
    let here = left_here c.args.bytes.now c.loop-walk.walk c.args.size now.bound now.back now.room now.read in
    let exact = rw c.in-Ok-Label.field-0-is at c.in-Ok-Label.ensures.exact in
    let stays = rw c.in-Ok-Label.field-0-is at c.in-Ok-Label.ensures.stays in
    let stop : c.loop-walk.walk.bound.stop ≤ length c.args.bytes.now = omega (arith, ap (λ (b : Bound). b.stop) now.bound) in
    record {
      read = left_label c.args.bytes.now c.loop-walk.walk c.in-Ok-Label.len _ _ _ now.room stop (sym exact) (omega arith) now.read;
      back = omega (arith, now.back);
      room = omega (arith, stays);
      bound = now.bound;
      known = kept c.args.bytes.now c.loop-walk.sizes c.loop-walk.walk.offset (c.args.size - c.loop-walk.walk.used) (omega arith) now.known (λ _. here.own);
    }

pub loop-walk-preserved : goal.loop-walk-preserved
loop-walk-preserved c =
    let now = c.loop-walk.invariant in
    let here = left_here c.args.bytes.now c.loop-walk.walk c.args.size now.bound now.back now.room now.read in
    let exact = rw c.in-Ok-Pointer.field-0-is at c.in-Ok-Pointer.ensures.exact in
    rw c.after-walk-in-Ok-Pointer.ensures
    (record {
      read = left_pointer c.args.bytes.now c.loop-walk.walk c.in-Ok-Pointer.target _ _ now.room (sym exact) now.read;
      back = omega arith;
      room = now.room;
      bound = refl;
      known = kept c.args.bytes.now c.loop-walk.sizes c.loop-walk.walk.offset (c.args.size - c.loop-walk.walk.used) (omega arith) now.known (λ _. here.own);
    })

pub returns-in_default : goal.returns-in_default
returns-in_default c =
    let now = c.loop-walk.invariant in
    let here = left_here c.args.bytes.now c.loop-walk.walk c.args.size now.bound now.back now.room now.read in
    kept c.args.bytes.now c.loop-walk.sizes c.loop-walk.walk.offset (c.args.size - c.loop-walk.walk.used) (omega arith) now.known (λ _. here.own)

pub returns-in_default-2 : goal.returns-in_default-2
returns-in_default-2 c =
    let now = c.loop-walk.invariant in
    let here = left_here c.args.bytes.now c.loop-walk.walk c.args.size now.bound now.back now.room now.read in
    kept c.args.bytes.now c.loop-walk.sizes c.loop-walk.walk.offset (c.args.size - c.loop-walk.walk.used) (omega arith) now.known (λ _. here.own)

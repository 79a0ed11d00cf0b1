use Rattle.std.proofs.Common.{◌≡◌, ℕ, ◌+◌, ◌-◌, List, ◌++◌, length, take, sym, ap, ◌∙◌, arith}
use borrow.Rule.Slice.PartMut.{put_mid}
use Rattle.std.proofs.lemmas.Result.{err_from_is_err_and}
use Rattle.std.proofs.lemmas.Slice.{take-put_mid}
use Rattle.dns_message.proofs.names.RunLaws.{passes_label, filled_first, filled_more, filled_fault, filled_end, filled_on, room_behind}
use Rattle.dns_message.proofs.names.labels.put_labels.Goals as goal

pub loop-len-init : goal.loop-len-init
loop-len-init c =
    record {
      filled = filled_first c.args.bytes.now _ c.new-walk.result _ c.new-walk.ensures.used (rw c.new-walk.ensures.bound c.requires.inside) c.new-walk.ensures.start;
      known = c.requires.known;
      beyond = rw c.new-walk.ensures.bound (λ h. h);
    }

pub returns-in_err-step_at-clause-exact : goal.returns-in_err-step_at-clause-exact
returns-in_err-step_at-clause-exact c =
    let p = err_from_is_err_and c.from_residual.result c.from_residual.ensures.1 in
    rw (p.1, p.2) (filled_fault c.args.bytes.now c.loop-len.octets c.loop-len.walk _ c.in_err-step_at.field-0.0 c.loop-len.invariant.filled (sym c.in_err-step_at.ensures.exact))

pub returns-in-End-clause-exact : goal.returns-in-End-clause-exact
returns-in-End-clause-exact c =
    rw c.unwrap_or.ensures (filled_end c.args.bytes.now c.loop-len.octets c.loop-len.walk _ c.loop-len.invariant.filled (rw c.in-End.is at (sym c.in_ok-step_at.ensures.exact)))

pub loop-len-preserved-in-Label : goal.loop-len-preserved-in-Label
loop-len-preserved-in-Label c =
    let now = c.loop-len.invariant.filled in
    let is = rw c.in-Label.is at (sym c.in_ok-step_at.ensures.exact) in
    let p = passes_label c.args.bytes.now c.loop-len.walk c.in-Label.len now.room now.stop is in
    let from : ℕ = c.loop-len.walk.used in
    let count : ℕ = from + c.in-Label.len + 1 - from in
    let old : List ℕ = c.loop-len.octets in
    let written : List ℕ = c.copy_from_slice.new.self in
    let text : take (from + c.in-Label.len + 1) (put_mid from count old written) ≡ take from old ++ written =
    take-put_mid from count old written (from + c.in-Label.len + 1) (omega (arith, p.used, ap length c.copy_from_slice.ensures.after, ap length c.part.ensures)) (room_behind old from now.size) in
    record {
      filled = filled_more c.args.bytes.now old (put_mid from count old written) _ c.loop-len.walk _ _ now p (text ∙ ap (λ (ys : List ℕ). take from old ++ ys) (c.copy_from_slice.ensures.after ∙ c.part.ensures));
      known = c.loop-len.invariant.known;
      beyond = c.loop-len.invariant.beyond;
    }

pub loop-len-preserved : goal.loop-len-preserved
loop-len-preserved c =
    let is = rw c.in-Pointer.is at (sym c.in_ok-step_at.ensures.exact) in
    rw (c.whole.ensures, c.unwrap_or-in-Pointer.ensures)
    (record {
      filled = filled_on c.args.bytes.now c.loop-len.octets c.loop-len.walk c.in-Pointer.target c.resolve-start.result _ c.loop-len.invariant.filled is c.resolve-start.ensures.leads;
      known = c.resolve-start.ensures.known;
      beyond = λ h. absurd cc;
    })

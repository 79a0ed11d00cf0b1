use Rattle.std.proofs.Common.{◌+◌, arith, sym, ◌∙◌}
use Rattle.std.proofs.lemmas.Result.{err_from_is_err_and}
use Rattle.dns_message.proofs.names.ShortcutLaws.{resume_shortcut}
use Rattle.std.specs.Prelude.{unwrap_or}
use Rattle.dns_message.proofs.names.NameLaws.{resume_fault, resume_end, resume_label, resume_pointer, advances}
use Rattle.dns_message.proofs.names.walk.next_label.Goals as goal

pub returns-in_err-step_at-clause-resumes : goal.returns-in_err-step_at-clause-resumes
returns-in_err-step_at-clause-resumes c =
    let p = err_from_is_err_and c.from_residual.result c.from_residual.ensures.1 in
    rw (p.1, p.2) (sym c.loop-len.invariant.same ∙ resume_fault c.args.bytes.now c.loop-len.walk c.in_err-step_at.field-0.0 (omega arith) (sym c.in_err-step_at.ensures.exact))

pub returns-in-End-clause-resumes : goal.returns-in-End-clause-resumes
returns-in-End-clause-resumes c =
    rw c.unwrap_or.ensures (sym c.loop-len.invariant.same ∙ resume_end c.args.bytes.now c.loop-len.walk (omega arith) (rw c.in-End.is at (sym c.in_ok-step_at.ensures.exact)))

pub returns-in-Label-clause-resumes : goal.returns-in-Label-clause-resumes
returns-in-Label-clause-resumes c =
    let is = rw c.in-Label.is at (sym c.in_ok-step_at.ensures.exact) in
    let read = resume_label c.args.bytes.now c.loop-len.walk c.in-Label.len (omega arith) is in
    rw c.part-label.ensures (advances c.args.bytes.now c.args.walk c.loop-len.walk c.in-Label.len is c.loop-len.invariant.used c.loop-len.invariant.back c.loop-len.invariant.stop (sym c.loop-len.invariant.same ∙ read))

pub loop-len-preserved : goal.loop-len-preserved
loop-len-preserved c =
    let stays = rw c.in-Pointer.is at c.in_ok-step_at.ensures.stays in
    let read = resume_pointer c.args.bytes.now c.loop-len.walk c.in-Pointer.target (omega arith) (rw c.in-Pointer.is at (sym c.in_ok-step_at.ensures.exact)) in
    let onward = resume_shortcut c.args.bytes.now c.in-Pointer.target c.resolve-start.result c.loop-len.walk.used (unwrap_or c.loop-len.walk.end (c.loop-len.walk.offset + 2)) c.resolve-start.ensures.leads (omega arith) in
    rw c.whole.ensures
    (record {
      same = rw c.unwrap_or-in-Pointer.ensures (sym onward ∙ sym read ∙ c.loop-len.invariant.same);
      used = c.loop-len.invariant.used;
      back = omega (arith, stays, c.resolve-start.ensures.back);
      stop = omega arith;
      known = c.resolve-start.ensures.known;
    })

use Rattle.std.proofs.Common.{sym, ◌∙◌, ap, ◌++◌, ◌∷◌, [], List, ℕ, append_assoc}
use Rattle.std.proofs.lemmas.Result.{err_from_is_err_and}
use Rattle.dns_name.specs.Text.{parts_of, written_label_fault}
use Rattle.dns_name.proofs.FaultLaws.{none_at, is_written_label, refuses, pushed_gives}
use Rattle.dns_name.proofs.text.name_of_parts.Goals as goal

pub push-requires : goal.push-requires
push-requires g c =
    let parts = c.loop-label.invariant.0 ∙ ap (λ (rest : List (List ℕ)). c.loop-label.builder ++ rest) c.in-Some.ensures.steps in
    is_written_label _ (none_at written_label_fault c.loop-label.builder c.in-Some.label.now c.next.new.self (rw parts at c.in_ok-check_parts.ensures.first))

pub loop-label-preserved : goal.loop-label-preserved
loop-label-preserved g c =
    let parts = c.loop-label.invariant.0 ∙ ap (λ (rest : List (List ℕ)). c.loop-label.builder ++ rest) c.in-Some.ensures.steps in
    let more = pushed_gives c.loop-label.builder c.push.new.self c.in-Some.label.now c.in_ok-push.ensures.given in
    (rw more.0 (parts ∙ sym (append_assoc c.loop-label.builder (c.in-Some.label.now ∷ []) c.next.new.self)), more.1)

pub returns-in_err-push-clause-given : goal.returns-in_err-push-clause-given
returns-in_err-push-clause-given g c =
    let parts = c.loop-label.invariant.0 ∙ ap (λ (rest : List (List ℕ)). c.loop-label.builder ++ rest) c.in-Some.ensures.steps in
    let p = err_from_is_err_and c.from_residual-in_err-push.result c.from_residual-in_err-push.ensures.1 in
    rw (p.1, p.2)
    (refuses written_label_fault (parts_of c.args.text.now) c.loop-label.builder c.in-Some.label.now c.next.new.self c.in_err-push.field-0.0 parts c.in_ok-check_parts.ensures.first c.in_err-push.ensures.given)

use Rattle.std.proofs.Common.{◌+◌, ◌∙◌, take, drop}
use Rattle.dns_name.specs.Faults.{label_fault}
use Rattle.std.proofs.lemmas.Result.{err_from_is_err_and}
use Rattle.dns_name.proofs.FaultLaws.{none_at, is_label, refuses, pushed_gives, items_of, items_split, items_more}
use Rattle.dns_name.proofs.name.Name.from_labels.Goals as goal

pub push-requires : goal.push-requires
push-requires g c =
    let i = c.loop-label.label-index in
    let vs = c.args.labels.now in
    let parts = items_split vs i c.label-item.result c.loop-label-test.true c.label-item.is in
    rw c.deref.ensures.value (is_label c.label-item.result.items (none_at label_fault (items_of (take i vs)) c.label-item.result.items (items_of (drop (i + 1) vs)) (rw (← parts) c.in_ok-check_labels.ensures)))

pub returns-in_err-push : goal.returns-in_err-push
returns-in_err-push g c =
    let i = c.loop-label.label-index in
    let vs = c.args.labels.now in
    let p = err_from_is_err_and c.from_residual-in_err-push.result c.from_residual-in_err-push.ensures.1 in
    rw (p.1, p.2)
    (refuses label_fault (items_of vs) (items_of (take i vs)) c.label-item.result.items (items_of (drop (i + 1) vs)) c.in_err-push.field-0.0
    (items_split vs i c.label-item.result c.loop-label-test.true c.label-item.is) c.in_ok-check_labels.ensures
    (rw (c.loop-label.invariant.0, c.deref.ensures.value) at c.in_err-push.ensures.given))

pub loop-label-preserved : goal.loop-label-preserved
loop-label-preserved g c =
    let g = pushed_gives _ _ _ c.in_ok-push.ensures.given in
    (g.0 ∙ rw (c.loop-label.invariant.0, c.deref.ensures.value) (items_more c.args.labels.now c.loop-label.label-index c.label-item.result c.loop-label-test.true c.label-item.is), g.1)

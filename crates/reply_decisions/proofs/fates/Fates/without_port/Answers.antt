use Rattle.std.proofs.Common.{◌∙◌, ◌++◌, ◌∷◌, [], ap, sym}
use Rattle.std.specs.Prelude.{map}
use Rattle.std.proofs.lemmas.List.{append-nil, map-append, nil_from_length}
use Rattle.step_table.specs.Replies.{without_port}
use Rattle.reply_decisions.specs.Fates.{Fates, fate_now}
use Rattle.reply_decisions.proofs.Parts.{next_mapped}
use Rattle.reply_decisions.proofs.fates.Fates.without_port.Goals as goal

pub loop-fate-init : goal.loop-fate-init
loop-fate-init g c =
    (λ i. map fate_now (c.in_ok-failed.ensures.items i) ++ map without_port (map fate_now (c.into_iter-fate-iterator.ensures.into_iter_gives.0 i)))
    ∙ ap (λ (f : Fates). map without_port f.each) c.self.view_is

pub loop-fate-preserved : goal.loop-fate-preserved
loop-fate-preserved g c =
    next_mapped without_port (map fate_now c.loop-fate.failed.items) (map fate_now c.push.new.self.items) (fate_now c.in-Some.fate) (fate_now c.in_ok-without_port.field-0)
    (map fate_now c.loop-fate.fate-iterator.rest.items) (map fate_now c.next.new.self.rest.items)
    (ap (map fate_now) c.in-Some.ensures.steps.0)
    (ap (map fate_now) c.in_ok-push.ensures.items ∙ map-append fate_now c.loop-fate.failed.items (c.in_ok-without_port.field-0 ∷ []))
    c.in_ok-without_port.ensures
    ∙ c.loop-fate.invariant

pub returns-clause-each : goal.returns-clause-each
returns-clause-each g c =
    sym (append-nil (map fate_now c.loop-fate.failed.items))
    ∙ ap (λ bs. map fate_now c.loop-fate.failed.items ++ map without_port (map fate_now bs)) (sym (nil_from_length c.loop-fate.fate-iterator.rest.items (sym c.loop-fate.fate-iterator.rest.ok.0 ∙ c.in-None.ensures.steps.0)))
    ∙ c.loop-fate.invariant

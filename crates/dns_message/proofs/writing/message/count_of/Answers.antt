use Rattle.std.proofs.Common.{arith, ap, ◌∙◌, length, List}
use Rattle.std.proofs.lemmas.List.{take_all}
use Rattle.dns_message.specs.Values.{Record}
use Rattle.dns_message.specs.Borrowed.{records_in}
use Rattle.dns_message.proofs.writing.WriterSets.{set_size, counted_more, counted_at_least}
use Rattle.dns_message.proofs.writing.message.count_of.Goals as goal

pub returns-then-more-count : goal.returns-then-more-count
returns-then-more-count g c =
    let size = set_size c.set-item.result _ _ _ _ _ c.set.view_is in
    let least = counted_at_least c.args.sets.now c.loop-set.set-index c.set-item.result c.loop-set-test.true c.set-item.is in
    omega (arith, c.if-more-count.true, c.loop-set.invariant.counted, c.loop-set.invariant.small, size, least, c.count-more.ensures)

pub loop-set-preserved : goal.loop-set-preserved
loop-set-preserved g c =
    let size = set_size c.set-item.result _ _ _ _ _ c.set.view_is in
    let more = counted_more c.args.sets.now c.loop-set.set-index c.set-item.result c.loop-set-test.true c.set-item.is in
    record { counted = omega (arith, c.loop-set.invariant.counted, size, more, c.count-more.ensures); small = omega (arith, c.if-more-count.false, c.loop-set.invariant.small) }

pub returns : goal.returns
returns g c = c.loop-set.invariant.counted ∙ ap (λ (sets : List (List Record)). length (records_in sets)) (take_all c.loop-set.set-index c.args.sets.now c.loop-set-test.false)

use Rattle.std.proofs.Common.{◌∙◌, sym}
use Rattle.reply_decisions.proofs.Parts.{passed_over, wanted_here}
use Rattle.reply_decisions.proofs.fates.Fates.wanted.Goals as goal

pub returns-in-Some : goal.returns-in-Some
returns-in-Some g c =
    sym c.loop-fate.invariant
    ∙ wanted_here c.deref-fate-items.result.now c.loop-fate.fate-index c.fate-item.result c.in-Some.question.now
    c.loop-fate-test.true c.fate-item.is c.in-Some.ensures

pub loop-fate-preserved : goal.loop-fate-preserved
loop-fate-preserved g c =
    passed_over c.deref-fate-items.result.now c.loop-fate.fate-index c.fate-item.result c.loop-fate-test.true
    c.fate-item.is c.in_default.ensures
    ∙ c.loop-fate.invariant

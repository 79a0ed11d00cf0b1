use Rattle.std.proofs.Common.{◌∙◌}
use Rattle.std.proofs.lemmas.List.{take_all}
use Rattle.step_texts.proofs.Aliases.{lent_one_more, lent_then}
use Rattle.step_texts.proofs.answers.chain_after.Goals as goal

pub loop-held-preserved : goal.loop-held-preserved
loop-held-preserved g c = lent_one_more c.loop-held.whole.items c.push.new.self.items _ c.args.aliases.now c.loop-held.held-index c.loop-held-test.true c.held-item.is c.loop-held.invariant c.in_ok-push.ensures.items

pub returns : goal.returns
returns g c = lent_then c.loop-held.whole.items c.args.chain.now _ c.args.aliases.now (c.loop-held.invariant ∙ take_all c.loop-held.held-index c.args.aliases.now c.loop-held-test.false) c.in_ok-extend_from_slice.ensures.items

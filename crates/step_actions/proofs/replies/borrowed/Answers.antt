use Rattle.std.proofs.Common.{◌∙◌}
use Rattle.std.proofs.lemmas.List.{take_all}
use Rattle.step_texts.proofs.CallerLemmas.{lent_one_more}
use Rattle.step_actions.proofs.replies.borrowed.Goals as goal

pub loop-entry-preserved : goal.loop-entry-preserved
loop-entry-preserved g c = lent_one_more c.loop-entry.refs.items c.push.new.self.items _ c.args.held.now c.loop-entry.entry-index c.loop-entry-test.true c.entry-item.is c.loop-entry.invariant c.in_ok-push.ensures.items

pub returns : goal.returns
returns g c = c.loop-entry.invariant ∙ take_all c.loop-entry.entry-index c.args.held.now c.loop-entry-test.false

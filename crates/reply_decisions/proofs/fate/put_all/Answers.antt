use Rattle.std.proofs.Common.{◌∙◌, ◌++◌, List, ap}
use Rattle.std.proofs.lemmas.List.{take_all}
use Rattle.record_cache.specs.Values.{Held}
use Rattle.plain_values.specs.Borrowed.{lent}
use Rattle.reply_decisions.proofs.Chains.{lent_more}
use Rattle.reply_decisions.proofs.fate.put_all.Goals as goal

pub loop-held-preserved : goal.loop-held-preserved
loop-held-preserved g c = lent_more (lent c.args.chain.now.items) c.loop-held.chain.items c.push.new.self.items _ c.args.pieces.now c.loop-held.held-index c.loop-held-test.true c.held-item.is c.loop-held.invariant c.in_ok-push.ensures.items

pub returns : goal.returns
returns g c = c.loop-held.invariant ∙ ap (λ (hs : List Held). lent c.args.chain.now.items ++ hs) (take_all c.loop-held.held-index c.args.pieces.now c.loop-held-test.false)

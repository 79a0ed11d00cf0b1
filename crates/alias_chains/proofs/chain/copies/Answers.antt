use Rattle.std.proofs.Common.{◌∙◌, ap, Bor}
use Rattle.std.proofs.lemmas.List.{take_all}
use Rattle.trust_rank.specs.Values.{Piece}
use Rattle.negative_cache.specs.RecordCache.Values.{Held}
use Rattle.plain_values.specs.Borrowed.{lent}
use Rattle.alias_chains.proofs.Chains.{copied_more, held_with}
use Rattle.alias_chains.proofs.chain.copies.Goals as goal

pub loop-held-preserved : goal.loop-held-preserved
loop-held-preserved g c =
    copied_more c.loop-held.copies.items c.push.new.self.items _ c.held-item.result c.args.pieces.now c.loop-held.held-index c.loop-held-test.true c.held-item.is c.loop-held.invariant
    (ap (λ (p : Piece). held_with p c.held.inside.now.accepted) c.in_ok-copy.ensures ∙ ap (λ (r : Bor Held). r.now) c.held.view_is) c.in_ok-push.ensures.items

pub returns : goal.returns
returns g c = c.loop-held.invariant ∙ ap lent (take_all c.loop-held.held-index c.args.pieces.now c.loop-held-test.false)

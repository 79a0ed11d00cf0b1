use Rattle.answer_builder.specs.Answers.{with_ttl, IsEarlier}
use Rattle.answer_builder.proofs.Chains.{drop_more, told_more}
use Rattle.answer_builder.proofs.piece_with_ttl.add_left.Goals as goal

pub loop-held-preserved : goal.loop-held-preserved
loop-held-preserved g c =
    let chain = c.args.chain.now in
    let i = c.loop-held.held-index in
    let held = c.held-item.result in
    let lt = c.loop-held-test.true in
    let all = c.loop-held.invariant in
    record {
      earlier = drop_more (IsEarlier c.args.moment) chain i held lt all.earlier;
      pieces = told_more (with_ttl c.args.moment) c.args.pieces.now.items c.loop-held.pieces.items c.push.new.self.items _ chain i
          held lt c.held-item.is c.at.ensures all.pieces c.in_ok-push.ensures.items;
    }

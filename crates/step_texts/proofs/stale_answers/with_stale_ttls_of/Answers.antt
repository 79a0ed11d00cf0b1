use Rattle.std.proofs.Common.{◌≡◌, ◌<◌, ◌∙◌, ◌++◌, ◌∷◌, [], length, get_or, sym, arith}
use Rattle.answer_builder.specs.Answers.{IsEarlier}
use Rattle.plain_values.specs.Borrowed.{lent}
use Rattle.step_texts.proofs.Telling.{left_more, past_more, lent_at, lent_length, all_from_next}
use Rattle.step_texts.proofs.stale_answers.with_stale_ttls_of.Goals.{then-place-stale_from, else-place-stale_from}
use Rattle.step_texts.proofs.stale_answers.with_stale_ttls_of.Goals as goal

pub at-one-requires : goal.at-one-requires
at-one-requires g c =
    let few = lent_length c.args.chain.now in let lt = c.loop-place-test.true in
    (all_from_next (IsEarlier c.args.moment) (lent c.args.chain.now) c.loop-place.place c.index-chain-place.result.now (omega (arith, few, lt))
    (lent_at c.args.chain.now c.loop-place.place c.index-chain-place.result c.index-chain-place.is) c.loop-place.invariant.earlier).0

pub stale-one-requires : goal.stale-one-requires
stale-one-requires g c =
    let few = lent_length c.args.chain.now in let lt = c.loop-place-test.true in
    (all_from_next (IsEarlier c.args.moment) (lent c.args.chain.now) c.loop-place.place c.index-chain-place.result.now (omega (arith, few, lt))
    (lent_at c.args.chain.now c.loop-place.place c.index-chain-place.result c.index-chain-place.is) c.loop-place.invariant.earlier).0

pub loop-place-preserved : goal.loop-place-preserved
loop-place-preserved g c =
    let refs = c.args.chain.now in
    let i = c.loop-place.place in
    let held = c.index-chain-place.result.now in
    let few = lent_length refs in
    let test = c.loop-place-test.true in
    let lt : i < length (lent refs) = omega (arith, few, test) in
    let is : held ≡ get_or (lent refs) i held = lent_at refs i c.index-chain-place.result c.index-chain-place.is in
    let all = c.loop-place.invariant in
    record {
      earlier = (all_from_next (IsEarlier c.args.moment) (lent refs) i held lt is all.earlier).1;
      pieces = c.in_ok-push.ensures.items ∙ elim c.if-place-stale_from.branch [
        | then-place-stale_from w ↦ (λ j. all.pieces j ++ (w.one-is ∙ w.at-one.ensures) j ∷ []) ∙ sym (left_more c.args.stale_from c.args.moment (lent refs) i held lt is w.if-place-stale_from.true)
        | else-place-stale_from w ↦ (λ j. all.pieces j ++ (w.one-is ∙ w.stale-one.ensures) j ∷ []) ∙ sym (past_more c.args.stale_from c.args.moment (lent refs) i held lt is (let no = w.if-place-stale_from.false in omega (arith, no)))
      ];
    }

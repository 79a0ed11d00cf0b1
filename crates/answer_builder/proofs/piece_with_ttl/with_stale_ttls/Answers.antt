use Rattle.std.proofs.Common.{sym, subst}
use Rattle.std.specs.List.{AllByRecursion}
use Rattle.answer_builder.specs.Answers.{IsEarlier}
use Rattle.answer_builder.proofs.Chains.{of_first, of_rest}
use Rattle.answer_builder.proofs.piece_with_ttl.with_stale_ttls.Goals as goal

pub add_left-requires : goal.add_left-requires
add_left-requires g c =
    let all = of_first (IsEarlier c.args.moment) c.args.stale_from c.args.chain.now c.requires.earlier in
    subst (AllByRecursion (IsEarlier c.args.moment)) (sym c.split_at.ensures.front) all

pub add_stale-requires : goal.add_stale-requires
add_stale-requires g c =
    let all = of_rest (IsEarlier c.args.moment) c.args.stale_from c.args.chain.now c.requires.earlier in
    subst (AllByRecursion (IsEarlier c.args.moment)) (sym c.split_at.ensures.back) all

use Rattle.std.proofs.Common.{ap, sym, subst, ◌∙◌, Option, Some, Bor}
use Rattle.std.specs.Prelude.{option_map}
use Rattle.std.specs.Option.{option_copied, IfSome}
use Rattle.record_cache.specs.Values.{Held}
use Rattle.answer_builder.specs.Values.{PieceWithTtl}
use Rattle.answer_builder.specs.Answers.{with_ttl, IsEarlier}
use Rattle.answer_builder.proofs.Chains.{last_earlier, last_lent}
use Rattle.answer_builder.proofs.piece_with_ttl.last_at.Goals as goal

pub at-requires : goal.at-requires
at-requires g c =
    let last = ap (λ (o : Option (Bor Held)). option_copied o) c.in-Some.ensures.value in
    let earlier = last_earlier (IsEarlier c.args.moment) c.args.chain.now c.requires in
    subst (λ (o : Option Held). IfSome o (IsEarlier c.args.moment)) (sym last) earlier

pub returns-in-Some : goal.returns-in-Some
returns-in-Some g c =
    let last = ap (λ (o : Option (Bor Held)). option_copied o) c.in-Some.ensures.value in
    ap (λ (t : PieceWithTtl). Some t) c.at.ensures ∙ ap (λ (o : Option Held). option_map (with_ttl c.args.moment) o) last
    ∙ sym (last_lent c.args.moment c.args.chain.now)

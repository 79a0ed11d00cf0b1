use Rattle.std.proofs.Common.{◌∙◌, ◌++◌, List, sym, ap, subst}
use Rattle.std.specs.Prelude.{map}
use Rattle.std.specs.List.{AllByRecursion}
use Rattle.std.proofs.lemmas.List.{map-append}
use Rattle.negative_cache.specs.RecordCache.Values.{Held}
use Rattle.answer_builder.specs.Answers.{IsEarlier}
use Rattle.alias_chains.specs.Offering.{held_at}
use Rattle.alias_chains.proofs.Offering.{held_now}
use Rattle.alias_chains.proofs.offers.held_from.Goals as goal

pub returns-clause-held : goal.returns-clause-held
returns-clause-held g c =
    c.in_ok-push_held-2.ensures
    ∙ ap (λ (es : List Held). es ++ map (held_at c.args.moment) c.args.authority) c.in_ok-push_held.ensures
    ∙ ap (λ (es : List Held). (es ++ map (held_at c.args.moment) c.args.pieces) ++ map (held_at c.args.moment) c.args.authority) c.new-held.ensures.items
    ∙ sym (map-append (held_at c.args.moment) c.args.pieces c.args.authority)

pub returns-clause-earlier : goal.returns-clause-earlier
returns-clause-earlier g c = subst (AllByRecursion (IsEarlier c.args.moment)) (sym (returns-clause-held g c)) (held_now c.args.moment (c.args.pieces ++ c.args.authority))

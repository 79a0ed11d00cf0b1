use Rattle.std.proofs.Common.{◌∙◌, ◌++◌, List, sym, ap, append-nil}
use Rattle.std.specs.Prelude.{map}
use Rattle.trust_rank.specs.Values.{Piece}
use Rattle.negative_cache.specs.RecordCache.Values.{Held}
use Rattle.alias_chains.specs.Offering.{held_at}
use Rattle.alias_chains.proofs.Offering.{nothing_in}
use Rattle.alias_chains.proofs.offers.push_held.Goals as goal

pub returns : goal.returns
returns g c =
    sym (append-nil c.loop-piece.held.items)
    ∙ ap (λ (ps : List Piece). c.loop-piece.held.items ++ map (held_at c.args.moment) ps) (sym (nothing_in c.loop-piece.piece-iterator.rest.items (sym c.loop-piece.piece-iterator.rest.ok.0 ∙ c.in-None.ensures.steps.0)))
    ∙ c.loop-piece.invariant
    ∙ ap (λ (es : List Held). es ++ map (held_at c.args.moment) c.args.pieces) c.in_ok-reserve.ensures.items

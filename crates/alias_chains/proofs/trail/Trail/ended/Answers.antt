use Rattle.std.proofs.Common.{◌∙◌, ◌++◌, ◌∷◌, [], ap, Bor}
use Rattle.std.proofs.lemmas.List.{map-append}
use Rattle.trust_rank.specs.declared.slot.Slot.{Slot}
use Rattle.negative_cache.specs.RecordCache.Values.{Held}
use Rattle.plain_values.specs.Borrowed.{lent}
use Rattle.alias_chains.specs.Looked.{looked_so}
use Rattle.alias_chains.specs.declared.looked.LookUpEnd.TheVariants.{Ends}
use Rattle.alias_chains.proofs.Following.{ended_so}
use Rattle.alias_chains.proofs.trail.Trail.ended.Goals as goal

pub returns : goal.returns
returns g c =
    let held = ap lent c.in_ok-push.ensures.items ∙ map-append (λ (r : Bor Held). r.now) c.args.self.held.items (c.args.end ∷ []) in
    let used = c.of.ensures ∙ c.in_ok-push-2.ensures.items
    ∙ ap (λ (s : Slot). c.args.self.used.items ++ s ∷ []) (c.slot.ensures.slot ∙ ap (λ (h : Held). h.piece.slot) c.end.view_is) in
    (λ i. looked_so Ends (held i) c.args.self.wanted (used i))
    ∙ ended_so (lent c.args.self.held.items) c.args.end.now c.args.self.wanted (c.args.self.used.items ++ c.args.end.now.piece.slot ∷ [])

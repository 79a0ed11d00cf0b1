use Rattle.std.proofs.Common.{rules, List, ◌≡◌, ◌<◌, ◌++◌, ◌∷◌, [], length, sym, ◌∙◌, ap, subst}
use Rattle.outstanding.specs.Values.{Ask, Inquiries}
use Rattle.outstanding.specs.Lists.{AreListed, MayBegin}
use Rattle.outstanding.specs.Tables.{asks_of}
use Rattle.outstanding.proofs.Listed.{put}
use Rattle.outstanding.proofs.inquiries.Inquiries.begin.Goals as goal

pub invariant_of-self-2 : goal.invariant_of-self-2
invariant_of-self-2 g c =
    let old : List Ask = asks_of c.self.inside.table in
    let list : asks_of c.put.new.self ≡ old ++ c.args.ask ∷ [] = c.put.ensures.list ∙ ap (λ (xs : List Ask). xs ++ c.args.ask ∷ []) c.reserve.ensures.list in
    let may : MayBegin c.args.ask old = subst (λ (inquiries : Inquiries). MayBegin c.args.ask inquiries.asks) (sym c.self.view_is) c.requires in
    let room : length old < c.self.inside.capacity = search rules in (
      c.put.ensures.indexed,
      subst (λ (xs : List Ask). AreListed (record { capacity = c.self.inside.capacity; asks = xs })) (sym list)
          (put c.self.inside.capacity old c.args.ask c.self.invariant.1.by_arrival c.self.invariant.1.in_time may room),
    )

pub returns-clause-listed : goal.returns-clause-listed
returns-clause-listed g c = (invariant_of-self-2 g c).1

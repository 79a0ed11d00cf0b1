use Rattle.std.proofs.Common.{◌∙◌, List, ◌∷◌, sym, ap, subst, refl}
use Rattle.std.specs.Prelude.{map}
use Rattle.std.proofs.lemmas.List.{length-map}
use Rattle.trust_rank.specs.Values.{Piece}
use Rattle.negative_cache.specs.RecordCache.Values.{Held, Cache}
use Rattle.alias_chains.proofs.Offering.{AreLeft, none_offered, nothing_in, one_more_fits, next_left, loop_ended}
use Rattle.alias_chains.proofs.offers.offer_all.Goals as goal

abbrev pieces : List Held → List Piece
pieces es = map (λ (h : Held). h.piece) es

pub loop-entry-init : goal.loop-entry-init
loop-entry-init g c = record {
  goes_on = tt;
  ends = tt;
  capacity = refl;
  left =
      subst (λ (es : List Held). AreLeft c.args.cache.now.capacity c.args.moment (pieces c.args.held.items) c.args.cache.now.entries (pieces es) c.args.cache.now.entries 0) (sym c.into_iter-entry-iterator.ensures.into_iter_gives.0)
      (none_offered c.args.cache.now.capacity c.args.moment (pieces c.args.held.items) c.args.cache.now.entries);
}

pub overflow_add-unkept : goal.overflow_add-unkept
overflow_add-unkept g c =
    one_more_fits c.loop-entry.unkept _ c.in-Some.entry.piece _ (pieces c.loop-entry.entry-iterator.rest.items) c.offer.result c.from-unkept.result c.loop-entry.invariant.left.few
    (ap pieces c.in-Some.ensures.steps.0) (subst (λ n. Rattle.std.proofs.Common.◌<◌ n (Rattle.std.proofs.Common.◌^◌ 2 32)) (sym (length-map c.args.held.items (λ (h : Held). h.piece))) c.requires.few) c.from-unkept.ensures

pub loop-entry-preserved : goal.loop-entry-preserved
loop-entry-preserved g c = record {
  goes_on = tt;
  ends = tt;
  capacity = ap (λ (e : Cache). e.capacity) c.offer.ensures.1 ∙ c.loop-entry.invariant.capacity;
  left =
      next_left c.args.cache.now.capacity c.args.moment (pieces c.args.held.items) c.args.cache.now.entries c.entry.inside.piece (pieces c.next.new.self.rest.items) (pieces c.loop-entry.entry-iterator.rest.items) c.loop-entry.cache c.offer.new.cache c.loop-entry.unkept c.offer.result c.from-unkept.result
      c.loop-entry.invariant.left (ap pieces c.in-Some.ensures.steps.0 ∙ ap (λ (h : Held). h.piece ∷ pieces c.next.new.self.rest.items) (sym c.entry.view_is)) c.loop-entry.invariant.capacity c.offer.ensures c.from-unkept.ensures;
}

pub returns : goal.returns
returns g c =
    let all = loop_ended c.args.moment (pieces c.args.held.items) c.args.cache.now c.loop-entry.cache (pieces c.loop-entry.entry-iterator.rest.items) c.loop-entry.unkept c.loop-entry.invariant.left
    (ap pieces (nothing_in c.loop-entry.entry-iterator.rest.items (sym c.loop-entry.entry-iterator.rest.ok.0 ∙ c.in-None.ensures.steps.0))) c.loop-entry.invariant.capacity in
    (all.0, all.1 ∙ length-map c.args.held.items (λ (h : Held). h.piece), all.2, all.3)

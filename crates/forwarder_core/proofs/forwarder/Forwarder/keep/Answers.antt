use Rattle.std.proofs.Common.{◌∙◌, ap, sym, subst, arith}
use Rattle.std.proofs.lemmas.List.{length-map}
use Rattle.std.specs.List.{AllByRecursion}
use Rattle.record_cache.specs.Values.{Held}
use Rattle.answer_builder.specs.Answers.{IsEarlier}
use Rattle.step_table.specs.AliasChains.LookingUp.{promoted_all}
use Rattle.step_table.specs.AliasChains.Offering.{put_all, unkept_of, pieces_of}
use Rattle.step_table.specs.Progress.{IsOnRoute}
use Rattle.step_table.specs.State.{Running}
use Rattle.step_table.specs.Steps.{with_entries}
use Rattle.client_decisions.specs.StepActions.Decision.{IsRouted}
use Rattle.forwarder_core.proofs.Entries.{all_promoted, all_offered, all_now, kept_in_turn}
use Rattle.forwarder_core.proofs.KeptLaws.{kept_entries}
use Rattle.forwarder_core.proofs.forwarder.Forwarder.keep.Goals as goal

pub offer_all-requires : goal.offer_all-requires
offer_all-requires g c = record { few = let same = length-map c.args.carried.items (λ (h : Held). h.piece) in let few = c.requires.few in omega (arith, same, few) }

pub invariant_of-self : goal.invariant_of-self
invariant_of-self g c =
    let kept = kept_in_turn c.self.inside.kept.moment c.args.used.now (pieces_of c.args.carried.items) c.self.inside.kept.cache c.promote_all.new.cache c.offer_all.new.cache c.offer_all.result c.promote_all.ensures (c.offer_all.ensures.0, c.offer_all.ensures.2, c.offer_all.ensures.3) in
    kept_entries c.self.inside.config c.self.inside.kept.cache c.offer_all.new.cache (put_all c.self.inside.kept.cache.capacity c.self.inside.kept.moment kept.0 (pieces_of c.args.carried.items) (promoted_all c.args.used.now c.self.inside.kept.cache.entries))
    c.self.inside.kept.inquiries c.self.inside.kept.waiting.items c.self.inside.kept.preferred.items c.self.inside.kept.moment c.self.inside.kept.tcp_asks c.self.invariant
    (all_offered (IsOnRoute c.self.inside.config) c.self.inside.kept.cache.capacity c.self.inside.kept.moment kept.0 (pieces_of c.args.carried.items) (promoted_all c.args.used.now c.self.inside.kept.cache.entries)
    (subst (λ (r : Running). AllByRecursion (IsRouted r.config) (pieces_of c.args.carried.items)) (sym c.self.view_is) c.requires.routed)
    (all_promoted (IsOnRoute c.self.inside.config) c.args.used.now c.self.inside.kept.cache.entries c.self.invariant.cache.on_routes))
    (all_offered (IsEarlier c.self.inside.kept.moment) c.self.inside.kept.cache.capacity c.self.inside.kept.moment kept.0 (pieces_of c.args.carried.items) (promoted_all c.args.used.now c.self.inside.kept.cache.entries)
    (all_now c.self.inside.kept.moment (pieces_of c.args.carried.items)) (all_promoted (IsEarlier c.self.inside.kept.moment) c.args.used.now c.self.inside.kept.cache.entries c.self.invariant.accepted))
    kept.1

pub returns : goal.returns
returns g c =
    let kept = kept_in_turn c.self.inside.kept.moment c.args.used.now (pieces_of c.args.carried.items) c.self.inside.kept.cache c.promote_all.new.cache c.offer_all.new.cache c.offer_all.result c.promote_all.ensures (c.offer_all.ensures.0, c.offer_all.ensures.2, c.offer_all.ensures.3) in (
      kept.0,
      (λ i. record {
        config = c.self.inside.config;
        state = record { cache = kept.1 i; asks = c.self.inside.kept.inquiries.asks; waiting = c.self.inside.kept.waiting.items; preferred = c.self.inside.kept.preferred.items; moment = c.self.inside.kept.moment; tcp_asks = c.self.inside.kept.tcp_asks };
      })
          ∙ ap (λ (r : Running). record { config = r.config; state = with_entries (put_all r.state.cache.capacity r.state.moment kept.0 (pieces_of c.args.carried.items) (promoted_all c.args.used.now r.state.cache.entries)) r.state }) c.self.view_is,
      kept.2 ∙ ap (λ (r : Running). unkept_of r.state.cache.capacity r.state.moment kept.0 (pieces_of c.args.carried.items) (promoted_all c.args.used.now r.state.cache.entries)) c.self.view_is,
    )

use Rattle.std.proofs.Common.{◌∙◌, ◌++◌, ◌∷◌, [], ap, sym, refl}
use Rattle.std.specs.Prelude.{map, None, Some}
use Rattle.std.proofs.lemmas.List.{append-nil, map-append, nil_from_length}
use Rattle.step_values.specs.Values.{action_of, actions_of}
use Rattle.step_table.specs.Steps.{replies, reply_in}
use Rattle.reply_decisions.specs.Fates.{Fates, fate_now, onward_of}
use Rattle.reply_decisions.proofs.Parts.{next_reply, no_reply, next_mapped}
use Rattle.reply_decisions.proofs.fates.Fates.into_parts.Goals as goal

pub loop-fate-init : goal.loop-fate-init
loop-fate-init g c = record {
  used = refl;
  actions =
      ap (λ bs. actions_of c.args.actions.now ++ replies (map fate_now bs)) c.into_iter-fate-iterator.ensures.into_iter_gives.0
      ∙ ap (λ (f : Fates). actions_of c.args.actions.now ++ replies f.each) c.self.view_is;
  onward =
      ap (λ os. os ++ map onward_of (map fate_now c.into_iter-fate-iterator.result.rest.items)) c.in_ok-onward.ensures.items
      ∙ ap (λ bs. map onward_of (map fate_now bs)) c.into_iter-fate-iterator.ensures.into_iter_gives.0
      ∙ ap (λ (f : Fates). map onward_of f.each) c.self.view_is;
}

pub loop-fate-preserved-in-Continue-branch-3 : goal.loop-fate-preserved-in-Continue-branch-3
loop-fate-preserved-in-Continue-branch-3 g c = record {
  used = refl;
  actions =
      next_reply (actions_of c.loop-fate.actions) (actions_of c.push.new.self) (fate_now c.in-Some.fate) (map fate_now c.loop-fate.fate-iterator.rest.items) (map fate_now c.next.new.self.rest.items) (action_of c.in-Reply.action)
      (ap (map fate_now) c.in-Some.ensures.steps.0) (ap actions_of c.in_ok-push-in-Reply.ensures.ok ∙ map-append action_of c.loop-fate.actions (c.in-Reply.action ∷ [])) (ap (λ f. reply_in (fate_now f)) c.in-Reply.is)
      ∙ c.loop-fate.invariant.actions;
  onward =
      next_mapped onward_of c.loop-fate.onward.items c.push-in-Reply.new.self.items (fate_now c.in-Some.fate) None (map fate_now c.loop-fate.fate-iterator.rest.items) (map fate_now c.next.new.self.rest.items)
      (ap (map fate_now) c.in-Some.ensures.steps.0) c.in_ok-push-in-Reply-2.ensures.items (sym (ap (λ f. onward_of (fate_now f)) c.in-Reply.is))
      ∙ c.loop-fate.invariant.onward;
}

pub loop-fate-preserved : goal.loop-fate-preserved
loop-fate-preserved g c = record {
  used = refl;
  actions =
      no_reply (actions_of c.loop-fate.actions) (fate_now c.in-Some.fate) (map fate_now c.loop-fate.fate-iterator.rest.items) (map fate_now c.next.new.self.rest.items)
      (ap (map fate_now) c.in-Some.ensures.steps.0) (ap (λ f. reply_in (fate_now f)) c.in-WaitsOn.is)
      ∙ c.loop-fate.invariant.actions;
  onward =
      next_mapped onward_of c.loop-fate.onward.items c.push-in-WaitsOn.new.self.items (fate_now c.in-Some.fate) (Some c.in-WaitsOn.redirected) (map fate_now c.loop-fate.fate-iterator.rest.items) (map fate_now c.next.new.self.rest.items)
      (ap (map fate_now) c.in-Some.ensures.steps.0) c.in_ok-push-in-WaitsOn.ensures.items (sym (ap (λ f. onward_of (fate_now f)) c.in-WaitsOn.is))
      ∙ c.loop-fate.invariant.onward;
}

pub returns-clause-replies : goal.returns-clause-replies
returns-clause-replies g c =
    sym (append-nil (actions_of c.loop-fate.actions))
    ∙ ap (λ bs. actions_of c.loop-fate.actions ++ replies (map fate_now bs)) (sym (nil_from_length c.loop-fate.fate-iterator.rest.items (sym c.loop-fate.fate-iterator.rest.ok.0 ∙ c.in-None.ensures.steps.0)))
    ∙ c.loop-fate.invariant.actions

pub returns-clause-onward : goal.returns-clause-onward
returns-clause-onward g c =
    sym (append-nil c.loop-fate.onward.items)
    ∙ ap (λ bs. c.loop-fate.onward.items ++ map onward_of (map fate_now bs)) (sym (nil_from_length c.loop-fate.fate-iterator.rest.items (sym c.loop-fate.fate-iterator.rest.ok.0 ∙ c.in-None.ensures.steps.0)))
    ∙ c.loop-fate.invariant.onward

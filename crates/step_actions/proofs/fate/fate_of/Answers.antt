use Rattle.std.proofs.Common.{◌∙◌, List, sym, ap, subst}
use Rattle.std.specs.List.{AllByRecursion}
use Rattle.answer_builder.specs.Answers.{IsEarlier}
use Rattle.answer_builder.specs.Transports.{answer_of}
use Rattle.plain_values.specs.Borrowed.{lent}
use Rattle.record_cache.specs.Values.{Held}
use Rattle.step_values.specs.Values.{Action}
use Rattle.step_values.specs.declared.action.Why.TheVariants.{Answered}
use Rattle.step_texts.specs.StepTable.State.{StepStart}
use Rattle.step_texts.specs.StepTable.Steps.{gets, sends, transport_of}
use Rattle.step_actions.proofs.Fates.{it_missed, ended_fate, long_fate}
use Rattle.step_actions.proofs.fate.fate_of.Goals as goal

pub answer-requires : goal.answer-requires
answer-requires g c = record {
  earlier =
      subst (λ (r : StepStart). AllByRecursion (IsEarlier r.moment) (lent c.chain.result.now)) (sym c.start.view_is)
      (subst (AllByRecursion (IsEarlier c.args.start.now.moment)) (sym c.chain.ensures.chain) c.requires.earlier);
}

pub returns-in_ok-action-in-Ends : goal.returns-in_ok-action-in-Ends
returns-in_ok-action-in-Ends g c =
    let x = c.args.request.now in
    let l = c.args.looked.now in
    ap (λ (a : Action). gets a) (c.in_ok-action-in-Ends.ensures ∙ (λ i. sends Answered x
    (answer_of x.asked (c.chain.ensures.chain i) (c.start.view_is i).moment (transport_of x.client))))
    ∙ ended_fate c.args.start.now.config c.args.start.now.moment x l l.met (sym c.met.ensures ∙ c.in-Ends.is)

pub returns-in_ok-action-in-TooLong : goal.returns-in_ok-action-in-TooLong
returns-in_ok-action-in-TooLong g c =
    let l = c.args.looked.now in
    ap (λ (a : Action). gets a) c.in_ok-action-in-TooLong.ensures
    ∙ long_fate c.args.start.now.config c.args.start.now.moment c.args.request.now l l.met
    (sym c.met.ensures ∙ c.in-TooLong.is)

pub missed-requires-clause-missed : goal.missed-requires-clause-missed
missed-requires-clause-missed g c =
    let l = c.args.looked.now in
    it_missed l.met (sym c.met.ensures ∙ c.in-Missed.is)

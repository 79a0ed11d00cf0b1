use Rattle.std.proofs.Common.{◌∙◌, ap, sym}
use Rattle.outstanding.specs.Lists.{on_path as ask_on}
use Rattle.step_table.specs.State.{StepStart}
use Rattle.step_table.specs.Failures.{row_of_failed_path}
use Rattle.reply_decisions.proofs.Deciding.{on_own}
use Rattle.step_actions.proofs.CallerLemmas.{decides_as, decides_by}
use Rattle.reply_decisions.proofs.attempt.on_failed_path.Goals as goal

pub fail-requires : goal.fail-requires
fail-requires g c = record {
  on =
      on_own c.args.path c.args.start.now.state.asks c.in-Some.ask.now
      (ap (λ (r : StepStart). ask_on c.args.path r.state.asks) (sym c.start.view_is) ∙ c.in-Some.ensures.found);
}

pub returns-in-Some-clause-decides : goal.returns-in-Some-clause-decides
returns-in-Some-clause-decides g c =
    decides_by c.fail.result _ _ _ c.fail.ensures.decides
    (λ rooms. sym (ap (row_of_failed_path c.args.start.now)
    (ap (λ (r : StepStart). ask_on c.args.path r.state.asks) (sym c.start.view_is) ∙ c.in-Some.ensures.found)))

pub returns-in-None-clause-decides : goal.returns-in-None-clause-decides
returns-in-None-clause-decides g c =
    decides_as c.nothing.ensures.decides (λ rooms.
    sym (ap (row_of_failed_path c.args.start.now) (ap (λ (r : StepStart). ask_on c.args.path r.state.asks)
    (sym c.start.view_is) ∙ c.in-None.ensures.found)))

use Rattle.std.proofs.Common.{◌≡◌, [], ◌∷◌, drop}
use Rattle.step_values.specs.Values.{actions_of}
use Rattle.step_texts.specs.StepTable.Steps.{closes}
use Rattle.step_texts.specs.StepTable.Failures.{runs_out}
use Rattle.step_actions.specs.Decision.{with_replies}
use Rattle.step_actions.proofs.out_of_tries.last_replies.Given as goal

abbrev pub invariant-loop-place : goal.invariant-loop-place
invariant-loop-place g l =
    with_replies (runs_out l.start.config l.start.moment l.start.state.cache.entries l.ask.question) (actions_of l.actions) (drop l.place l.those)
    ≡ with_replies (runs_out l.start.config l.start.moment l.start.state.cache.entries l.ask.question) (closes l.ask.path ∷ []) l.those

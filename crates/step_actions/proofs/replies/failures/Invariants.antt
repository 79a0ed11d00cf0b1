use Rattle.std.proofs.Common.{◌≡◌, [], ◌∷◌, drop}
use Rattle.step_values.specs.Values.{actions_of}
use Rattle.step_texts.specs.StepTable.Steps.{closes, fails}
use Rattle.step_actions.specs.Decision.{with_replies}
use Rattle.step_actions.proofs.replies.failures.Given as goal

abbrev pub invariant-loop-place : goal.invariant-loop-place
invariant-loop-place g l = with_replies (fails l.why l.ask.question) (actions_of l.actions) (drop l.place l.those) ≡ with_replies (fails l.why l.ask.question) (closes l.ask.path ∷ []) l.those

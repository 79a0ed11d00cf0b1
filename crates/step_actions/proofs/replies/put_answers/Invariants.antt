use Rattle.std.proofs.Common.{◌≡◌, drop}
use Rattle.step_values.specs.Values.{actions_of}
use Rattle.step_actions.specs.Decision.{with_replies, gives_from}
use Rattle.step_actions.proofs.replies.put_answers.Given as goal

abbrev pub invariant-loop-place : goal.invariant-loop-place
invariant-loop-place g l = record {
  same : l.answers ≡ l.initial.answers;
  replies : with_replies (gives_from l.initial.answers l.ask.question) (actions_of l.actions) (drop l.place l.those) ≡ with_replies (gives_from l.initial.answers l.ask.question) (actions_of l.initial.actions) l.those;
}

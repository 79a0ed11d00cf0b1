use Rattle.std.proofs.Common.{◌≡◌, drop}
use Rattle.std.specs.List.{find}
use Rattle.step_texts.specs.Spelling.{is_for}
use Rattle.step_texts.proofs.answers.find_spelled.Given as goal

abbrev pub invariant-loop-spelled : goal.invariant-loop-spelled
invariant-loop-spelled g l = find (is_for l.transport l.question) (drop l.spelled-index l.texts) ≡ find (is_for l.transport l.question) l.texts

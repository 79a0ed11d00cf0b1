use Rattle.std.proofs.Common.{◌≡◌, take, drop}
use Rattle.std.specs.List.{AllByRecursion}
use Rattle.answer_builder.specs.Answers.{with_stale_ttls, IsEarlier}
use Rattle.plain_values.specs.Borrowed.{lent}
use Rattle.step_texts.proofs.stale_answers.with_stale_ttls_of.Given as goal

abbrev pub invariant-loop-place : goal.invariant-loop-place
invariant-loop-place g l = record {
  earlier : AllByRecursion (IsEarlier l.moment) (drop l.place (lent l.chain));
  pieces : l.pieces.items ≡ with_stale_ttls l.stale_from l.moment (take l.place (lent l.chain));
}

use Rattle.std.specs.List.{AllByRecursion}
use Rattle.answer_builder.specs.Answers.{IsEarlier}
use Rattle.tests_answers.proofs.samples.chain_of.Given as goal

abbrev pub invariant-loop-piece : goal.invariant-loop-piece
invariant-loop-piece g l = AllByRecursion (IsEarlier l.moment) l.chain

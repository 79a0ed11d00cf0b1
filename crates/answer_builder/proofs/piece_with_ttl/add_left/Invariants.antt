use Rattle.std.proofs.Common.{◌≡◌, ◌++◌, map, take, drop}
use Rattle.std.specs.List.{AllByRecursion}
use Rattle.answer_builder.specs.Answers.{with_ttl, IsEarlier}
use Rattle.answer_builder.proofs.piece_with_ttl.add_left.Given as goal

abbrev pub invariant-loop-held : goal.invariant-loop-held
invariant-loop-held g l = record {
  earlier : AllByRecursion (IsEarlier l.moment) (drop l.held-index l.chain);
  pieces : l.pieces.items ≡ l.fn.pieces.items ++ map (with_ttl l.moment) (take l.held-index l.chain);
}

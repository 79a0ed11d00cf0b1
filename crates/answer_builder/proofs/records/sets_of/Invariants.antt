use Rattle.std.proofs.Common.{◌≡◌, take}
use Rattle.std.specs.Prelude.{flat_map}
use Rattle.dns_message.specs.Borrowed.{records_in}
use Rattle.answer_builder.specs.Answers.{answers_of}
use Rattle.answer_builder.proofs.records.sets_of.Given as goal

abbrev pub invariant-loop-pieces : goal.invariant-loop-pieces
invariant-loop-pieces g l = records_in l.sets.items ≡ flat_map answers_of (take l.pieces-index l.chain)

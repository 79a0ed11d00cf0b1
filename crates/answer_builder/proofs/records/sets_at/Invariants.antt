use Rattle.std.proofs.Common.{◌≡◌, map, take, drop}
use Rattle.std.specs.Prelude.{flat_map}
use Rattle.std.specs.List.{AllByRecursion}
use Rattle.dns_message.specs.Borrowed.{records_in}
use Rattle.answer_builder.specs.Answers.{answers_of, with_ttl, IsEarlier}
use Rattle.dns_message.specs.PlainValues.Borrowed.{lent}
use Rattle.answer_builder.proofs.records.sets_at.Given as goal

abbrev pub invariant-loop-held : goal.invariant-loop-held
invariant-loop-held g l = record {
  earlier : AllByRecursion (IsEarlier l.moment) (lent (drop l.held-index l.chain));
  listed : records_in l.sets.items ≡ flat_map answers_of (map (with_ttl l.moment) (lent (take l.held-index l.chain)));
}

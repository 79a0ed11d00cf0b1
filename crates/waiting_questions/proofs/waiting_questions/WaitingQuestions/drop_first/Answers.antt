use Rattle.std.proofs.Common.{arith, rules}
use Rattle.waiting_questions.specs.Indexes.{keys_of}
use Rattle.waiting_questions.proofs.Numbered.{length_keys}
use Rattle.waiting_questions.proofs.Indexed.{first_stands_at}
use Rattle.waiting_questions.proofs.waiting_questions.WaitingQuestions.drop_first.Goals as goal

pub take-requires-clause-place : goal.take-requires-clause-place
take-requires-clause-place g c =
    omega (arith, length_keys c.self.inside.table.by_question.items, (first_stands_at c.self.inside.table.waiting (keys_of c.self.inside.table.by_question.items) c.self.inside.table.by_arrival.keys c.self.invariant.lists c.in-Some.first.now c.in-Some.ensures c.key.result.now c.key.ensures c.range-place.result.0 c.range-place.result.1 c.range-place.ensures).0)

pub take-requires-clause-one : goal.take-requires-clause-one
take-requires-clause-one g c =
    (first_stands_at c.self.inside.table.waiting (keys_of c.self.inside.table.by_question.items) c.self.inside.table.by_arrival.keys c.self.invariant.lists c.in-Some.first.now c.in-Some.ensures c.key.result.now c.key.ensures c.range-place.result.0 c.range-place.result.1 c.range-place.ensures).1

pub returns : goal.returns
returns g c = search rules

use Rattle.std.proofs.Common.{ap, ◌∙◌, arith}
use Rattle.std.specs.Prelude.{filter}
use Rattle.waiting_questions.specs.Values.{waits_for, WaitingList}
use Rattle.waiting_questions.specs.Indexes.{keys_of}
use Rattle.waiting_questions.proofs.Numbered.{length_keys}
use Rattle.waiting_questions.proofs.Indexed.{those_at}
use Rattle.waiting_questions.proofs.waiting_questions.WaitingQuestions.for_ask.Goals as goal

pub new-requires : goal.new-requires
new-requires g c =
    let table = c.self.inside.table in
    record {
      low = c.range-start.ensures.low;
      high = omega (arith, c.range-start.ensures.high, length_keys table.by_question.items);
      present = (those_at table.waiting (keys_of table.by_question.items) table.by_arrival.keys c.self.invariant.lists c.args.ask.now.question c.key.result.now c.key.ensures c.range-start.result.0 c.range-start.result.1 c.range-start.ensures).0;
    }

pub returns : goal.returns
returns g c =
    let table = c.self.inside.table in
    c.new.ensures
    ∙ (those_at table.waiting (keys_of table.by_question.items) table.by_arrival.keys c.self.invariant.lists c.args.ask.now.question c.key.result.now c.key.ensures c.range-start.result.0 c.range-start.result.1 c.range-start.ensures).1
    ∙ ap (λ (w : WaitingList). filter (waits_for c.args.ask.now.question) w.items) c.self.view_is

use Rattle.std.proofs.Common.{not}
use Rattle.std.specs.Prelude.{filter}
use Rattle.waiting_questions.specs.Values.{waits_for}
use Rattle.waiting_questions.specs.Indexes.{items_of, keys_of, AreNumbered}
use Rattle.waiting_questions.proofs.Indexed.{IsEnding}
use Rattle.waiting_questions.proofs.table.Table.end.Given as goal

abbrev pub invariant-loop-place : goal.invariant-loop-place
invariant-loop-place g l =
    IsEnding l.fn.ask.question (filter (λ x. not (waits_for l.fn.ask.question x)) (items_of l.fn.self)) l.self.waiting (keys_of l.self.by_question.items) l.self.by_arrival.keys l.start l.place l.end
    × AreNumbered l.self.waiting l.self.by_question.items

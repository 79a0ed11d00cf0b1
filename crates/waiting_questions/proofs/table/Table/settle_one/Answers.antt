use Rattle.std.proofs.Common.{Option, sym, ap, ◌∙◌, rules}
use Rattle.waiting_questions.specs.Onward.{Onward}
use Rattle.waiting_questions.specs.Indexes.{questions_of}
use Rattle.waiting_questions.specs.Settling.{left_by, with_at}
use Rattle.waiting_questions.proofs.table.Table.settle_one.Goals as goal

pub returns-in-Some-clause-list : goal.returns-in-Some-clause-list
returns-in-Some-clause-list g c = λ x is.
    c.send_on.ensures.list x is ∙ ap (λ (f : Option Onward). with_at (questions_of c.args.self.now) c.args.rank (left_by f x)) (sym c.in-Some.is)

pub returns-in-None-clause-list : goal.returns-in-None-clause-list
returns-in-None-clause-list g c = search rules

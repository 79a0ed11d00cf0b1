use Rattle.std.proofs.Common.{sym, ◌∙◌}
use Rattle.waiting_questions.proofs.Keys.{first_under}
use Rattle.waiting_questions.proofs.table.Table.first.Goals as goal

pub returns : goal.returns
returns g c =
    first_under c.args.self.now.waiting c.args.self.now.by_arrival.keys c.in_ok-key.key c.index.result.now (sym c.first.ensures ∙ c.in_ok-key.was) c.index.ensures

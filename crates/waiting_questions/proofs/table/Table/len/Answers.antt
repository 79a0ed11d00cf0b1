use Rattle.std.proofs.Common.{arith}
use Rattle.waiting_questions.proofs.Keys.{length_under}
use Rattle.waiting_questions.proofs.table.Table.len.Goals as goal

pub returns : goal.returns
returns g c = omega (arith, c.len.ensures, length_under c.args.self.now.waiting c.args.self.now.by_arrival.keys c.requires.lists.arrivals.present)

use Rattle.std.proofs.Common.{arith}
use Rattle.outstanding.proofs.AsksUnder.{length_under}
use Rattle.outstanding.proofs.table.Table.len.Goals as goal

pub returns : goal.returns
returns g c = omega (arith, c.len.ensures, length_under c.args.self.now.asks c.args.self.now.by_arrival.keys c.requires.keys.arrivals.present)

use Rattle.std.proofs.Common.{rules}
use Rattle.outstanding.proofs.Retries.{given_up, unused}
use Rattle.outstanding.proofs.draws.draw.Goals as goal
use Rattle.outstanding.proofs.draws.draw.Goals.{then-is_freed-via-then-is_freed, then-is_freed-via-else-is_freed+then-not-is_used}

pub returns-then-is_freed-clause-free : goal.returns-then-is_freed-clause-free
returns-then-is_freed-clause-free g c = elim c.then-is_freed.branch [
  | then-is_freed-via-then-is_freed w ↦ given_up c.port_from-port.result c.args.inquiries.now.asks c.args.freed (search rules)
  | then-is_freed-via-else-is_freed+then-not-is_used w ↦ unused c.port_from-port.result c.args.inquiries.now.asks c.args.freed (search rules)
]

use Rattle.std.proofs.Common.{rules}
use Rattle.outstanding.proofs.inquiries.due_of.Goals as goal

pub returns : goal.returns
returns g c = search rules

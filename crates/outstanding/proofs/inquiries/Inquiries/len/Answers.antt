use Rattle.std.proofs.Common.{rules}
use Rattle.outstanding.proofs.inquiries.Inquiries.len.Goals as goal

pub returns-clause-count : goal.returns-clause-count
returns-clause-count g c = search rules

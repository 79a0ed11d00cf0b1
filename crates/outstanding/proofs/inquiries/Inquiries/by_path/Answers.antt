use Rattle.std.proofs.Common.{rules}
use Rattle.outstanding.proofs.inquiries.Inquiries.by_path.Goals as goal

pub returns-clause-found : goal.returns-clause-found
returns-clause-found g c = search rules

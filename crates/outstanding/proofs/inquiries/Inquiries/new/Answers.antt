use Rattle.std.proofs.Common.{rules}
use Rattle.outstanding.proofs.inquiries.Inquiries.new.Goals as goal

pub returns : goal.returns
returns g c = search rules

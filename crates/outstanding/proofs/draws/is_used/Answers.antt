use Rattle.std.proofs.Common.{◌∙◌}
use Rattle.outstanding.proofs.Retries.{used_is}
use Rattle.outstanding.proofs.draws.is_used.Goals as goal

pub returns : goal.returns
returns g c = c.is_some.ensures ∙ used_is c.args.port c.args.inquiries.now.asks c.by_path.result c.by_path.ensures.found

use Rattle.std.proofs.Common.{rules}
use Rattle.outstanding.proofs.table.put_key.Goals as goal

pub returns : goal.returns
returns g c = search rules

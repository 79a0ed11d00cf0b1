use Rattle.std.proofs.Common.{rules}
use Rattle.outstanding.proofs.numbered.NumberedKey.new.Goals as goal

pub returns : goal.returns
returns c = search rules

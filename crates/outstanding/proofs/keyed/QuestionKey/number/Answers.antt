use Rattle.std.proofs.Common.{rules}
use Rattle.outstanding.proofs.keyed.QuestionKey.number.Goals as goal

pub returns : goal.returns
returns c = search rules

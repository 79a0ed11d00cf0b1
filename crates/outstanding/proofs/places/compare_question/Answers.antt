use Rattle.std.proofs.Common.{rules}
use Rattle.outstanding.proofs.places.compare_question.Goals as goal

pub returns-in-Some : goal.returns-in-Some
returns-in-Some g c = search rules

use Rattle.std.proofs.Common.{rules}
use Rattle.suffix_routes.proofs.place.Limit.lowest.Goals as goal

pub returns-in-Questions : goal.returns-in-Questions
returns-in-Questions c = search rules

use Rattle.std.proofs.Common.{rules}
use Rattle.suffix_routes.proofs.place.Limit.key.Goals as goal

pub returns-in-AskMs : goal.returns-in-AskMs
returns-in-AskMs c = search rules

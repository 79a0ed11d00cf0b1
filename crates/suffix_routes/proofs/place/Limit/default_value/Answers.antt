use Rattle.std.proofs.Common.{rules}
use Rattle.suffix_routes.proofs.place.Limit.default_value.Goals as goal

pub returns-in-Tries : goal.returns-in-Tries
returns-in-Tries c = search rules

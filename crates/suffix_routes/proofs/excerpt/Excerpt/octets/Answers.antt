use Rattle.std.proofs.Common.{rules}
use Rattle.suffix_routes.proofs.excerpt.Excerpt.octets.Goals as goal

pub returns : goal.returns
returns c = search rules

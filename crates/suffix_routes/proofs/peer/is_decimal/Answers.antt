use Rattle.std.proofs.Common.{rules}
use Rattle.suffix_routes.proofs.peer.is_decimal.Goals as goal

pub returns : goal.returns
returns c = search rules

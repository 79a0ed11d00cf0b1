use Rattle.std.proofs.Common.{rules}
use Rattle.suffix_routes.proofs.read.not_toml.Goals as goal

pub returns : goal.returns
returns c = search rules

use Rattle.std.proofs.Common.{rules}
use Rattle.record_cache.proofs.held.Held.is_name_error.Goals as goal

pub returns : goal.returns
returns g c = search rules

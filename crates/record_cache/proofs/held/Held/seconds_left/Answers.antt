use Rattle.std.proofs.Common.{rules}
use Rattle.record_cache.proofs.held.Held.seconds_left.Goals as goal

pub returns : goal.returns
returns g c = search rules

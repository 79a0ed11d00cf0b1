use Rattle.std.proofs.Common.{rules}
use Rattle.record_cache.proofs.held.Held.is_alive.Goals as goal

pub returns-in-Some : goal.returns-in-Some
returns-in-Some g c = search rules

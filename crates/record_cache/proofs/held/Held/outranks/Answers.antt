use Rattle.std.proofs.Common.{rules}
use Rattle.record_cache.proofs.held.Held.outranks.Goals as goal

pub returns-then-is_alive : goal.returns-then-is_alive
returns-then-is_alive g c = search rules

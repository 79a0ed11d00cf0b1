use Rattle.std.proofs.Common.{rules}
use Rattle.record_cache.proofs.counts.Counts.remove.Goals as goal

pub returns-in-Some : goal.returns-in-Some
returns-in-Some c = search rules

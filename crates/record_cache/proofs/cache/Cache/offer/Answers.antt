use Rattle.std.proofs.Common.{rules}
use Rattle.record_cache.proofs.cache.Cache.offer.Goals as goal

pub returns-clause-answer : goal.returns-clause-answer
returns-clause-answer g c = search rules

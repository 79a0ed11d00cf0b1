use Rattle.record_cache.proofs.Telling.{none_of_size, none_denies, no_alias_is_there}
use Rattle.record_cache.proofs.laws.counts_tell_what_is_there.Goals as goal

pub returns-clause-size : goal.returns-clause-size
returns-clause-size c = none_of_size

pub returns-clause-denial : goal.returns-clause-denial
returns-clause-denial c = none_denies

pub returns-clause-alias : goal.returns-clause-alias
returns-clause-alias c = no_alias_is_there

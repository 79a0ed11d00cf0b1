use Rattle.cache_laws.proofs.Servers.{sets_are_whole, server_sets_are_whole}
use Rattle.cache_laws.proofs.replies.sets_are_whole.Goals as goal

pub returns-clause-walk : goal.returns-clause-walk
returns-clause-walk c = sets_are_whole

pub returns-clause-servers : goal.returns-clause-servers
returns-clause-servers c = server_sets_are_whole

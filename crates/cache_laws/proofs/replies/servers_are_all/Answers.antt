use Rattle.cache_laws.proofs.Servers.{servers_are_all, servers_are_apart, others_carry_none}
use Rattle.cache_laws.proofs.replies.servers_are_all.Goals as goal

pub returns-clause-all : goal.returns-clause-all
returns-clause-all c = servers_are_all

pub returns-clause-none : goal.returns-clause-none
returns-clause-none c = others_carry_none

pub returns-clause-apart : goal.returns-clause-apart
returns-clause-apart c = servers_are_apart

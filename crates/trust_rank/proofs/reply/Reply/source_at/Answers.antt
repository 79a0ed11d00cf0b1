use Rattle.std.proofs.Common.{rules}
use Rattle.trust_rank.proofs.reply.Reply.source_at.Goals as goal

pub returns-clause-rank : goal.returns-clause-rank
returns-clause-rank g c = search rules

use Rattle.std.proofs.Common.{rules}
use Rattle.trust_rank.proofs.reply.Reply.met_at.Goals as goal

pub returns-then-not-is_on_route : goal.returns-then-not-is_on_route
returns-then-not-is_on_route g c = search rules

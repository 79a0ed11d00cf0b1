use Rattle.std.proofs.Common.{rules}
use Rattle.step_texts.proofs.answers.Answers.plain_reply.Goals as goal

pub returns-clause-reply : goal.returns-clause-reply
returns-clause-reply g c = search rules

use Rattle.std.proofs.Common.{rules}
use Rattle.dns_message.proofs.reading.question_ref.QuestionRef.name.Goals as goal

pub returns-clause-laid : goal.returns-clause-laid
returns-clause-laid c = search rules

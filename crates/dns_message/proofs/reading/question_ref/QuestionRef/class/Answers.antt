use Rattle.std.proofs.Common.{rules}
use Rattle.dns_message.proofs.reading.question_ref.QuestionRef.class.Goals as goal

pub returns : goal.returns
returns c = search rules

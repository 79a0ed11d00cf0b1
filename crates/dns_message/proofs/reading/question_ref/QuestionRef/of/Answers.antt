use Rattle.std.proofs.Common.{rules}
use Rattle.dns_message.proofs.reading.question_ref.QuestionRef.of.Goals as goal

pub returns : goal.returns
returns g c = search rules

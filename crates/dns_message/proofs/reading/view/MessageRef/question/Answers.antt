use Rattle.std.proofs.Common.{rules}
use Rattle.dns_message.proofs.reading.view.MessageRef.question.Goals as goal

pub returns-in_err-question : goal.returns-in_err-question
returns-in_err-question g c = search rules

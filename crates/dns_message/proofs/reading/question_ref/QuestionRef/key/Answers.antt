use Rattle.std.proofs.Common.{rules}
use Rattle.dns_message.proofs.reading.question_ref.QuestionRef.key.Goals as goal

pub from_octets-requires : goal.from_octets-requires
from_octets-requires c = search rules

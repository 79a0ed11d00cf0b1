use Rattle.std.proofs.Common.{rules}
use Rattle.dns_message.proofs.reading.question_ref.QuestionRef.copy.Goals as goal

pub from_octets-requires : goal.from_octets-requires
from_octets-requires g c = search rules

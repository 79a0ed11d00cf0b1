use Rattle.std.proofs.Common.{rules}
use Rattle.dns_message.proofs.names.whole.key_at.Goals as goal

pub from_octets-requires : goal.from_octets-requires
from_octets-requires c = search rules

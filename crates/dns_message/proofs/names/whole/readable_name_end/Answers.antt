use Rattle.std.proofs.Common.{rules}
use Rattle.dns_message.proofs.names.whole.readable_name_end.Goals as goal

pub returns-then-first-ge192 : goal.returns-then-first-ge192
returns-then-first-ge192 c = search rules

use Rattle.std.proofs.Common.{rules}
use Rattle.dns_message.proofs.writing.writer.Writer.check.Goals as goal

pub returns-then-len-limit : goal.returns-then-len-limit
returns-then-len-limit g c = search rules

use Rattle.std.proofs.Common.{rules}
use Rattle.dns_message.proofs.writing.header.reply_front.Goals as goal

pub returns : goal.returns
returns c = search rules

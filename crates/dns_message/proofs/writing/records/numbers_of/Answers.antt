use Rattle.std.proofs.Common.{rules}
use Rattle.dns_message.proofs.writing.records.numbers_of.Goals as goal

pub returns : goal.returns
returns c = search rules

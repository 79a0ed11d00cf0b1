use Rattle.std.proofs.Common.{rules}
use Rattle.dns_message.proofs.writing.writer.Writer.put_name.Goals as goal

pub put_first_name-requires-clause-none : goal.put_first_name-requires-clause-none
put_first_name-requires-clause-none g c = search rules

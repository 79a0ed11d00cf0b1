use Rattle.dns_message.proofs.names.SizeLaws.{none_known}
use Rattle.dns_message.proofs.reading.spans.records_in_large.Goals as goal

pub records_with-requires-clause-known : goal.records_with-requires-clause-known
records_with-requires-clause-known c = none_known c.args.bytes.now 16384

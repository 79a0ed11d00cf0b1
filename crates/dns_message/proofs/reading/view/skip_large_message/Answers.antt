use Rattle.dns_message.proofs.names.SizeLaws.{none_known}
use Rattle.dns_message.proofs.reading.view.skip_large_message.Goals as goal

pub skip_sections-requires-clause-known : goal.skip_sections-requires-clause-known
skip_sections-requires-clause-known c = none_known c.args.bytes.now 16384

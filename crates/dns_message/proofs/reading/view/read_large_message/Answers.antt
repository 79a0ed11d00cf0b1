use Rattle.dns_message.proofs.names.ShortcutLaws.{none_known}
use Rattle.dns_message.proofs.reading.view.read_large_message.Goals as goal

pub read_sections-requires : goal.read_sections-requires
read_sections-requires g c = none_known c.args.bytes.now 16384

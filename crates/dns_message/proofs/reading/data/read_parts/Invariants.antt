use Rattle.std.proofs.Common.{◌≡◌, drop}
use Rattle.dns_message.specs.Shortcuts.{AreShortcuts}
use Rattle.dns_message.specs.Data.{prefixed, parts_at}
use Rattle.dns_message.proofs.reading.data.read_parts.Given as goal

abbrev pub invariant-loop-part : goal.invariant-loop-part
invariant-loop-part g l = record { rest : prefixed l.octets.items (parts_at (drop l.part-index l.parts) l.bytes l.stop l.at) ≡ parts_at l.parts l.bytes l.stop l.offset; known : AreShortcuts l.bytes l.ends }

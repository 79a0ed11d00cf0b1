use Rattle.std.proofs.Common.{refl}
use Rattle.dns_message.proofs.writing.WriterLaws.{holds_more}
use Rattle.dns_message.proofs.writing.writer.Writer.put.Goals as goal

pub returns : goal.returns
returns g c = holds_more c.args.self.now _ c.args.octets.now c.in_ok-extend_from_slice.ensures.items refl

use Rattle.std.proofs.Common.{arith, refl}
use Rattle.dns_message.specs.Writing.{flags_of}
use Rattle.dns_message.proofs.writing.WriterMessages.{header_written}
use Rattle.dns_message.proofs.writing.message.put_header.Goals as goal

pub returns : goal.returns
returns g c = (
  header_written c.args.writer.now c.put.new.self c.args.header.now (flags_of c.args.header.now) c.args.counts c.octets.result (omega arith) refl c.octets.ensures.octets c.in_ok-put.ensures,
  c.octets.ensures.id,
)

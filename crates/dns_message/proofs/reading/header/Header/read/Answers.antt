use Rattle.std.proofs.Common.{arith}
use Rattle.dns_message.proofs.reading.HeaderLaws.{header_by_flags}
use Rattle.dns_message.proofs.reading.header.Header.read.Goals as goal

pub returns-clause-exact : goal.returns-clause-exact
returns-clause-exact c =
    let long = c.if-bytes-lt12.false in
    let small = c.type_inv.bytes 3 in
    rw (
      c.number16.ensures,
      c.is_set.ensures,
      c.bits.ensures,
      c.is_set-2.ensures,
      c.is_set-3.ensures,
      c.is_set-4.ensures,
      c.is_set-5.ensures,
      c.bits-2.ensures,
      c.bits-3.ensures,
      c.number16-2.ensures,
      c.number16-3.ensures,
      c.number16-4.ensures,
      c.number16-5.ensures,
    )
    (header_by_flags c.args.bytes.now c.number16-flags.result (omega (arith, long)) (omega (arith, small)) c.number16-flags.ensures)

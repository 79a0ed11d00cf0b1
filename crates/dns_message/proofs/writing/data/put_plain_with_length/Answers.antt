use Rattle.std.proofs.Common.{arith}
use Rattle.dns_message.proofs.writing.WriterRecords.{plain_refused, plain_written, plain_long}
use Rattle.dns_message.proofs.writing.data.put_plain_with_length.Goals as goal

pub returns-then-octets-room-clause-put : goal.returns-then-octets-room-clause-put
returns-then-octets-room-clause-put g c = λ t h. plain_refused c.args.limit t c.args.octets.now c.args.writer.now h (omega (arith, c.room.ensures, c.if-octets-room.true))

pub returns-clause-put : goal.returns-clause-put
returns-clause-put g c =
    let step = plain_written c.args.writer.now c.put_u16.new.self c.put.new.self c.args.octets.now c.in_ok-put_u16.ensures c.in_ok-put.ensures in
    (step, omega (arith, plain_long c.args.writer.now c.put.new.self c.args.octets.now c.requires.holds step, c.room.ensures, c.if-octets-room.false), tt)

use Rattle.std.proofs.Common.{arith}
use Rattle.dns_message.proofs.reading.NameLaws.{goes_on, name_ends}
use Rattle.dns_message.proofs.reading.question_ref.uncompressed_name.Goals as goal

pub returns-then-end-offset-eq1 : goal.returns-then-end-offset-eq1
returns-then-end-offset-eq1 c = rw c.part.ensures ((name_ends c.args.bytes.now c.args.offset c.args.end c.requires).plain (grind arith))

pub returns-then-first-eq0 : goal.returns-then-first-eq0
returns-then-first-eq0 c =
    let here = goes_on c.args.bytes.now c.args.offset c.loop-offset.at c.loop-offset.invariant in
    rw c.part-then-first-eq0.ensures (here.zero_octet c.if-first-eq0.true)

pub returns-then-first-ge192 : goal.returns-then-first-ge192
returns-then-first-ge192 c =
    let here = goes_on c.args.bytes.now c.args.offset c.loop-offset.at c.loop-offset.invariant in
    here.pointer c.if-first-ge192.true

pub loop-offset-preserved : goal.loop-offset-preserved
loop-offset-preserved c =
    let here = goes_on c.args.bytes.now c.args.offset c.loop-offset.at c.loop-offset.invariant in
    here.label (omega (arith, c.if-first-eq0.false)) (omega (arith, c.if-first-ge192.false))

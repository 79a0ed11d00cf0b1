use Rattle.std.proofs.lemmas.Result.{err_from_is_err_and}
use Rattle.dns_message.proofs.reading.DataLaws.{read_fails, read_short}
use Rattle.dns_message.proofs.reading.data.read_parts.Goals as goal

pub returns-in_err-at-clause-exact : goal.returns-in_err-at-clause-exact
returns-in_err-at-clause-exact g c =
    let p = err_from_is_err_and c.from_residual.result c.from_residual.ensures.1 in
    rw (p.1, p.2)
    (read_fails c.in_err-at.field-0.0 c.loop-part.octets.items c.args.parts.now c.loop-part.part-index _ c.args.bytes.now c.args.rest.stop c.loop-part.at _ c.loop-part-test.true c.in_err-at.ensures.exact c.loop-part.invariant.rest)

pub returns-then-at-stop-clause-exact : goal.returns-then-at-stop-clause-exact
returns-then-at-stop-clause-exact g c =
    read_short c.loop-part.octets.items c.args.parts.now c.loop-part.part-index c.args.bytes.now c.args.rest.stop c.loop-part.at _ c.loop-part-test.false c.if-at-stop.true c.loop-part.invariant.rest

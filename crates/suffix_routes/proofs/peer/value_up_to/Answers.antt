use Rattle.std.proofs.Common.{◌+◌, arith, sym}
use Rattle.suffix_routes.proofs.ReadLaws.{too_great, value_more}
use Rattle.suffix_routes.proofs.peer.value_up_to.Goals as goal

pub returns-then-value-high : goal.returns-then-value-high
returns-then-value-high c =
    let i = c.loop-digit.digit-index in
    let more = value_more i c.args.digits.now c.loop-digit-test.true in
    sym (too_great (i + 1) c.args.high c.args.digits.now (omega (arith, more, c.if-value-high.true, c.loop-digit.invariant.0, c.from.ensures)))

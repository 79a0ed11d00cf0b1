use Rattle.std.proofs.Common.{length, ap, arith}
use Rattle.forwarder_rows.proofs.LineLaws.{none-wanted, none-given, differ, feed, octet}
use Rattle.forwarder_rows.proofs.comparison.differing_line.Goals as goal

pub loop-octet-init : goal.loop-octet-init
loop-octet-init c = record { counted = omega arith; few = omega arith }

pub returns-in_default-split_first-clause-line : goal.returns-in_default-split_first-clause-line
returns-in_default-split_first-clause-line c =
    omega (arith, c.loop-octet.invariant.counted, none-given c.loop-octet.wanted.now c.loop-octet.given.now c.in_default-split_first.ensures.cases)

pub returns-then-octet-other-clause-line : goal.returns-then-octet-other-clause-line
returns-then-octet-other-clause-line c =
    omega (arith, c.loop-octet.invariant.counted, differ c.loop-octet.wanted.now c.loop-octet.given.now c.in-Some.octet.now c.in-Some-split_first.other.now c.in-Some.wanted_rest.now c.in-Some-split_first.given_rest.now c.in-Some.ensures.cases.0 c.in-Some-split_first.ensures.cases.0 c.if-octet-other.true)

pub overflow_add-line : goal.overflow_add-line
overflow_add-line c = omega (arith, c.loop-octet.invariant.few, ap length c.in-Some.ensures.cases.0, c.in-Some-split_first.ensures.cases.1)

pub loop-octet-smaller-then-octet-eq10 : goal.loop-octet-smaller-then-octet-eq10
loop-octet-smaller-then-octet-eq10 c = omega (arith, ap length c.in-Some.ensures.cases.0)

pub loop-octet-preserved-then-octet-eq10 : goal.loop-octet-preserved-then-octet-eq10
loop-octet-preserved-then-octet-eq10 c = record {
  counted = omega (arith, c.loop-octet.invariant.counted, feed c.loop-octet.wanted.now c.loop-octet.given.now c.in-Some.octet.now c.in-Some-split_first.other.now c.in-Some.wanted_rest.now c.in-Some-split_first.given_rest.now c.in-Some.ensures.cases.0 c.in-Some-split_first.ensures.cases.0 c.if-octet-other.false c.if-octet-eq10.true);
  few = omega (arith, c.loop-octet.invariant.few, ap length c.in-Some.ensures.cases.0);
}

pub loop-octet-smaller : goal.loop-octet-smaller
loop-octet-smaller c = omega (arith, ap length c.in-Some.ensures.cases.0)

pub loop-octet-preserved : goal.loop-octet-preserved
loop-octet-preserved c = record {
  counted = omega (arith, c.loop-octet.invariant.counted, octet c.loop-octet.wanted.now c.loop-octet.given.now c.in-Some.octet.now c.in-Some-split_first.other.now c.in-Some.wanted_rest.now c.in-Some-split_first.given_rest.now c.in-Some.ensures.cases.0 c.in-Some-split_first.ensures.cases.0 c.if-octet-other.false c.if-octet-eq10.false);
  few = omega (arith, c.loop-octet.invariant.few, ap length c.in-Some.ensures.cases.0);
}

pub returns-clause-line : goal.returns-clause-line
returns-clause-line c = omega (arith, c.loop-octet.invariant.counted, none-wanted c.loop-octet.wanted.now c.loop-octet.given.now c.in_default.ensures.cases)

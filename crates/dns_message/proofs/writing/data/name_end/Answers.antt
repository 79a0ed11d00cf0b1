use Rattle.std.proofs.Common.{arith}
use Rattle.dns_message.proofs.writing.NameEnd.{label_goes, ends_at, no_name, none_beyond, none_long}
use Rattle.dns_message.proofs.writing.data.name_end.Goals as goal

pub returns-then-len-eq0 : goal.returns-then-len-eq0
returns-then-len-eq0 c =
    ends_at c.args.octets.now c.loop-at.at (omega (arith, c.min-most.ensures, c.loop-at-test.true)) (omega (arith, c.min-most.ensures, c.loop-at-test.true)) c.if-len-eq0.true c.loop-at.invariant

pub returns-then-len-gt-LABEL_MOST : goal.returns-then-len-gt-LABEL_MOST
returns-then-len-gt-LABEL_MOST c = no_name c.args.octets.now c.loop-at.at (none_long c.args.octets.now c.loop-at.at c.if-len-gt-LABEL_MOST.true) c.loop-at.invariant

pub loop-at-preserved : goal.loop-at-preserved
loop-at-preserved c = label_goes c.args.octets.now c.loop-at.at _ (omega (arith, c.if-len-eq0.false)) c.if-len-gt-LABEL_MOST.false (omega arith) c.loop-at.invariant

pub returns : goal.returns
returns c = no_name c.args.octets.now c.loop-at.at (none_beyond c.args.octets.now c.loop-at.at (λ in_ short. omega (arith, c.min-most.ensures, c.loop-at-test.false))) c.loop-at.invariant

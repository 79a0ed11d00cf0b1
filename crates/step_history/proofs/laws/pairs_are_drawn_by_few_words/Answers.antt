use Rattle.std.proofs.Common.{arith}
use Rattle.step_history.proofs.laws.pairs_are_drawn_by_few_words.Goals as goal

pub returns-clause-few : goal.returns-clause-few
returns-clause-few call id port a b c ab bc x y z =
    let ia = x.identifier in let ib = y.identifier in let ic = z.identifier in
    let pa = x.port_is in let pb = y.port_is in let pc = z.port_is in
    let sa = x.small in let sb = y.small in let sc = z.small in
    omega (arith, ab, bc, ia, ib, ic, pa, pb, pc, sa, sb, sc)

pub returns-clause-each : goal.returns-clause-each
returns-clause-each call id port i least most = record {
  small = omega (arith, i, least, most);
  identifier = omega (arith, i, least, most);
  port_is = omega (arith, i, least, most);
}

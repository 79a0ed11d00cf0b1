use Rattle.std.proofs.Common.{arith}
use Rattle.dns_name.proofs.LabelLaws.{grows, too_long}
use Rattle.dns_name.proofs.FaultLaws.{pushed_long, pushes}
use Rattle.dns_name.proofs.builder.NameBuilder.push.Goals as goal

pub returns-then-len-label-gt-MOST-clause-given : goal.returns-then-len-label-gt-MOST-clause-given
returns-then-len-label-gt-MOST-clause-given c =
    rw (← c.self.view_is) (pushed_long _ _ (too_long c.self.inside.octets.items c.args.label.now c.self.invariant (omega (arith, c.len.ensures.value, c.if-len-label-gt-MOST.true))))

pub invariant_of-self : goal.invariant_of-self
invariant_of-self c =
    (grows c.self.inside.octets.items c.put_label.new.octets.items c.args.label.now c.self.invariant c.requires (omega (arith, c.len.ensures.value, c.if-len-label-gt-MOST.false)) c.put_label.ensures).laid

pub returns-clause-given : goal.returns-clause-given
returns-clause-given c =
    rw (← c.self.view_is)
    (pushes _ _ _ (grows c.self.inside.octets.items c.put_label.new.octets.items c.args.label.now c.self.invariant c.requires (omega (arith, c.len.ensures.value, c.if-len-label-gt-MOST.false)) c.put_label.ensures))

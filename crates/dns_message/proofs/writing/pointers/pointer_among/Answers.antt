use Rattle.std.proofs.Common.{sym, ◌∙◌}
use Rattle.dns_message.proofs.writing.PointerLaws.{none_among, among_here, among_later}
use Rattle.dns_message.proofs.writing.pointers.pointer_among.Goals as goal

pub returns-then-eq : goal.returns-then-eq
returns-then-eq c = sym (among_here c.args.few.now c.loop-known.known-index _ c.args.name.now c.loop-known-test.true (sym c.eq.ensures ∙ c.if-eq.true)) ∙ c.loop-known.invariant

pub loop-known-preserved : goal.loop-known-preserved
loop-known-preserved c = sym (among_later c.args.few.now c.loop-known.known-index _ c.args.name.now c.loop-known-test.true (sym c.eq.ensures ∙ c.if-eq.false)) ∙ c.loop-known.invariant

pub returns : goal.returns
returns c = sym (none_among c.args.few.now c.loop-known.known-index c.args.name.now c.loop-known-test.false) ∙ c.loop-known.invariant

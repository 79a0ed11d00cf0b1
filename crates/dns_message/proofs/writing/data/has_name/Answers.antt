use Rattle.std.proofs.Common.{sym, ◌∙◌}
use Rattle.dns_message.proofs.writing.Plain.{here, not_here, none_left}
use Rattle.dns_message.proofs.writing.data.has_name.Goals as goal

pub returns-in-Name : goal.returns-in-Name
returns-in-Name c = sym (here c.args.parts.now c.loop-part.part-index _ c.loop-part-test.true c.in-Name.is) ∙ c.loop-part.invariant

pub loop-part-preserved : goal.loop-part-preserved
loop-part-preserved c = sym (not_here c.args.parts.now c.loop-part.part-index _ c.loop-part-test.true c.in_default.not-Name) ∙ c.loop-part.invariant

pub returns : goal.returns
returns c = sym (none_left c.args.parts.now c.loop-part.part-index c.loop-part-test.false) ∙ c.loop-part.invariant

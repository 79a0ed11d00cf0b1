use Rattle.std.proofs.Common.{sym, ◌∙◌}
use Rattle.dns_message.proofs.writing.WriterFields.{more_at, none_at, done_at}
use Rattle.dns_message.proofs.writing.data.are_parts.Goals as goal

pub returns-in-None : goal.returns-in-None
returns-in-None c = sym (sym c.loop-part.invariant ∙ none_at c.args.parts.now c.loop-part.part-index _ c.loop-part.rest.now c.loop-part-test.true c.in-None.ensures)

pub loop-part-preserved : goal.loop-part-preserved
loop-part-preserved c = sym (more_at c.args.parts.now c.loop-part.part-index _ c.loop-part.rest.now c.in-Some.field-0-0.now c.in-Some.after.now c.loop-part-test.true c.in-Some.ensures) ∙ c.loop-part.invariant

pub returns : goal.returns
returns c = c.is_empty.ensures ∙ sym (done_at c.args.parts.now c.loop-part.part-index c.loop-part.rest.now c.loop-part-test.false) ∙ c.loop-part.invariant

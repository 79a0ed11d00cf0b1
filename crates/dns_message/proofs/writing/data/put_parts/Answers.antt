use Rattle.std.proofs.Common.{sym, ◌∙◌}
use Rattle.dns_message.specs.Writing.{Writing, as_is}
use Rattle.dns_message.proofs.writing.WriterLaws.{goes_on, along, ends}
use Rattle.dns_message.proofs.writing.WriterFields.{parts_text}
use Rattle.dns_message.proofs.writing.Plain.{none_of_none, none_first, more_first, left_first, plain_text}
use Rattle.dns_message.proofs.writing.data.put_parts.Goals as goal

pub unreachable-requires : goal.unreachable-requires
unreachable-requires g c = none_of_none c.loop-left.left.now c.in_default.ensures.cases c.loop-left-test.ensures

pub unreachable-requires-in_default-split_before : goal.unreachable-requires-in_default-split_before
unreachable-requires-in_default-split_before g c =
    none_first c.loop-left.left.now c.in-Some.others.now c.in-Some.part.now c.loop-left.rest.now c.in-Some.ensures.cases.0 c.in_default-split_before.ensures c.loop-left.invariant.parts

pub loop-left-preserved : goal.loop-left-preserved
loop-left-preserved g c =
    let now = c.loop-left.invariant in
    let whole : Writing = parts_text c.args.parts.now c.args.octets.now in
    let left = along c.args.writer.now c.loop-left.writer (parts_text c.loop-left.left.now c.loop-left.rest.now) _ whole
    (left_first c.loop-left.left.now c.in-Some.others.now c.in-Some.part.now c.loop-left.rest.now c.in-Some-split_before.first.now c.in-Some-split_before.after.now c.in-Some.ensures.cases.0 c.in-Some-split_before.ensures now.parts) now.left in
    record {
      parts = sym (more_first c.loop-left.left.now c.in-Some.others.now c.in-Some.part.now c.loop-left.rest.now c.in-Some-split_before.first.now c.in-Some-split_before.after.now c.in-Some.ensures.cases.0 c.in-Some-split_before.ensures) ∙ now.parts;
      left = goes_on c.args.writer.now c.loop-left.writer c.put_part.new.writer _ (parts_text c.in-Some.others.now c.in-Some-split_before.after.now) whole left c.in_ok-put_part.ensures;
    }

pub returns : goal.returns
returns g c =
    let now = c.loop-left.invariant in
    let whole : Writing = parts_text c.args.parts.now c.args.octets.now in
    ends c.args.writer.now c.loop-left.writer c.put.new.self (as_is c.loop-left.rest.now) whole
    (along c.args.writer.now c.loop-left.writer (parts_text c.loop-left.left.now c.loop-left.rest.now) (as_is c.loop-left.rest.now) whole (plain_text c.loop-left.left.now c.loop-left.rest.now (sym c.loop-left-test.ensures) now.parts) now.left)
    c.in_ok-put.ensures

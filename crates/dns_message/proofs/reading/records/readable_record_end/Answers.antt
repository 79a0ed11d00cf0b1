use Rattle.std.proofs.Common.{arith}
use Rattle.dns_message.proofs.reading.EndLaws.{record_ends}
use Rattle.dns_message.proofs.reading.records.readable_record_end.Goals as goal

pub overflow_add-result : goal.overflow_add-result
overflow_add-result c =
    let at = record_ends c.args.bytes.now c.args.offset c.readable_name_end-after.result c.requires c.readable_name_end-after.ensures in
    omega (arith, at.there)

pub overflow_add-after : goal.overflow_add-after
overflow_add-after c =
    let at = record_ends c.args.bytes.now c.args.offset c.readable_name_end-after.result c.requires c.readable_name_end-after.ensures in
    omega (arith, at.there)

pub number16-requires : goal.number16-requires
number16-requires c =
    let at = record_ends c.args.bytes.now c.args.offset c.readable_name_end-after.result c.requires c.readable_name_end-after.ensures in
    omega (arith, at.there)

pub overflow_add-result-2 : goal.overflow_add-result-2
overflow_add-result-2 c =
    let at = record_ends c.args.bytes.now c.args.offset c.readable_name_end-after.result c.requires c.readable_name_end-after.ensures in
    omega (arith, at.there)

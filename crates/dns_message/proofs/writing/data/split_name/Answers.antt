use Rattle.std.proofs.Common.{◌-◌, arith}
use Rattle.std.proofs.lemmas.List.{take-take}
use Rattle.dns_message.proofs.writing.WriterFields.{in_front, name_first}
use Rattle.dns_message.proofs.writing.data.split_name.Goals as goal

pub split_at-requires : goal.split_at-requires
split_at-requires c = (in_front c.args.octets.now c.args.end c.requires).fits

pub slice_bounds-result-count : goal.slice_bounds-result-count
slice_bounds-result-count c = (in_front c.args.octets.now c.args.end c.requires).some

pub returns : goal.returns
returns c =
    rw (c.split_at.ensures.front, c.split_at.ensures.back, take-take (c.args.end - 1) c.args.end c.args.octets.now (omega arith))
    (name_first c.args.octets.now c.args.end (in_front c.args.octets.now c.args.end c.requires))

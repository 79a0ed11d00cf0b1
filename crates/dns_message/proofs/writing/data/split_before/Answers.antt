use Rattle.std.proofs.Common.{sym, ◌∙◌}
use Rattle.dns_message.proofs.writing.Plain.{ends_before}
use Rattle.dns_message.proofs.writing.data.split_before.Goals as goal

pub overflow_sub-octets : goal.overflow_sub-octets
overflow_sub-octets c =
    (ends_before c.args.others.now c.in-Name-Some.size c.args.octets.now (sym c.size_of_parts.ensures ∙ c.in-Name-Some.is-1) (rw c.in-Name-Some.is-0 at c.requires)).0

pub split_name-requires : goal.split_name-requires
split_name-requires c =
    (ends_before c.args.others.now c.in-Name-Some.size c.args.octets.now (sym c.size_of_parts.ensures ∙ c.in-Name-Some.is-1) (rw c.in-Name-Some.is-0 at c.requires)).1

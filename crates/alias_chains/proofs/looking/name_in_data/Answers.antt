use Rattle.std.proofs.Common.{sym}
use Rattle.dns_message.proofs.CallerLemmas.{name_to_the_end}
use Rattle.alias_chains.proofs.looking.name_in_data.Goals as goal

pub slice_bounds-result-count : goal.slice_bounds-result-count
slice_bounds-result-count c = (name_to_the_end c.args.octets.now c.in-Ok.end (sym (rw c.whole.ensures at c.in-Ok.ensures.exact)) c.if-end-octets.true).0

pub returns-in-Ok : goal.returns-in-Ok
returns-in-Ok c =
    let name = name_to_the_end c.args.octets.now c.in-Ok.end (sym (rw c.whole.ensures at c.in-Ok.ensures.exact)) c.if-end-octets.true in
    (name.1, name.2)

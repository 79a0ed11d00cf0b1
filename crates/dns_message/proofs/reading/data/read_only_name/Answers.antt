use Rattle.std.proofs.Common.{sym}
use Rattle.std.proofs.lemmas.Result.{err_from_is_err_and}
use Rattle.dns_message.proofs.reading.ShapeLaws.{only_name}
use Rattle.dns_message.proofs.reading.data.read_only_name.Goals as goal

pub slice_bounds-from_octets-count : goal.slice_bounds-from_octets-count
slice_bounds-from_octets-count g c = (only_name c.args.octets.now c.in-Ok.end (sym (rw c.whole.ensures at c.in-Ok.ensures.exact)) c.if-end-octets.true).some

pub from_octets-requires : goal.from_octets-requires
from_octets-requires g c = (only_name c.args.octets.now c.in-Ok.end (sym (rw c.whole.ensures at c.in-Ok.ensures.exact)) c.if-end-octets.true).laid

pub returns-in_err-name-in-Ok-clause-some : goal.returns-in_err-name-in-Ok-clause-some
returns-in_err-name-in-Ok-clause-some g c =
    let p = err_from_is_err_and c.from_residual.result c.from_residual.ensures.1 in
    let name = (only_name c.args.octets.now c.in-Ok.end (sym (rw c.whole.ensures at c.in-Ok.ensures.exact)) c.if-end-octets.true).name in
    rw (p.1) (λ none. absurd cc)

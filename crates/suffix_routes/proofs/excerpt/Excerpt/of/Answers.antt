use Rattle.std.proofs.Common.{◌<◌, length, sym, arith, ◌∙◌}
use Rattle.std.proofs.lemmas.List.{length-take-le, take_all}
use Rattle.suffix_routes.proofs.excerpt.Excerpt.of.Goals as goal

pub slice_bounds-kept-end : goal.slice_bounds-kept-end
slice_bounds-kept-end c =
    let long : 64 < length c.as_bytes-octets.result.now = omega (arith, c.if-octets-gt64.true) in
    sym (length-take-le 64 c.as_bytes-octets.result.now (omega (arith, long)))

pub kept-requires : goal.kept-requires
kept-requires c =
    let long : 64 < length c.as_bytes-octets.result.now = omega (arith, c.if-octets-gt64.true) in
    omega (arith, length-take-le 64 c.as_bytes-octets.result.now (omega (arith, long)))

pub returns-else-octets-gt64 : goal.returns-else-octets-gt64
returns-else-octets-gt64 c =
    c.kept-else-octets-gt64.ensures ∙ c.as_bytes-octets.ensures.value ∙ sym (take_all 64 c.args.text.now (omega (arith, c.if-octets-gt64.false, c.as_bytes-octets.ensures.len)))

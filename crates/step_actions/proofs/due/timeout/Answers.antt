use Rattle.std.proofs.Common.{ap, arith}
use Rattle.suffix_routes.specs.Values.{Config}
use Rattle.outstanding.specs.Values.{Ask}
use Rattle.step_actions.proofs.due.timeout.Goals as goal

pub overflow_add-result : goal.overflow_add-result
overflow_add-result g c =
    let fits = c.requires in
    let asked = ap (λ (a : Ask). a.asked) c.ask.view_is in
    let wait = ap (λ (k : Config). k.limits.ask_ms) c.config.view_is in
    omega (arith, fits, asked, wait)

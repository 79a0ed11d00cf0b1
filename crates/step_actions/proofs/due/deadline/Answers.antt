use Rattle.std.proofs.Common.{ap, arith}
use Rattle.suffix_routes.specs.Values.{Config}
use Rattle.step_texts.specs.WaitingQuestions.Values.{Waiting}
use Rattle.step_actions.proofs.due.deadline.Goals as goal

pub overflow_add-result : goal.overflow_add-result
overflow_add-result g c =
    let fits = c.requires in
    let taken = ap (λ (x : Waiting). x.taken) c.waiting.view_is in
    let wait = ap (λ (k : Config). k.limits.deadline_ms) c.config.view_is in
    omega (arith, fits, taken, wait)

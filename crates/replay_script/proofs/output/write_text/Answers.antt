use Rattle.std.proofs.Common.{◌++◌, ◌∙◌, List, ℕ, [], refl, ap, subst, take}
use Rattle.std.specs.Prelude.{Err}
use Rattle.std.proofs.lemmas.List.{take_rest, take-append-drop}
use Rattle.std.proofs.lemmas.Result.{err_from_is_err_and}
use Rattle.replay_script.specs.declared.fault.ReplayFault.TheVariants.{Device}
use Rattle.replay_script.specs.Printing.{Writes}
use Rattle.replay_script.proofs.Written.{writes_more, writes_nothing}
use Rattle.replay_script.proofs.output.write_text.Goals as goal

pub returns-in_err-count : goal.returns-in_err-count
returns-in_err-count g c =
    let p = err_from_is_err_and c.from_residual.result c.from_residual.ensures.1 in
    let e = c.in_err-count.ensures in
    rw (p.1, p.2) (c.loop-try.invariant (Err c.in_err-count.field-0.0) (g.W.Write.contents c.write_some.new.writer) (e.fault, ([], (c.loop-try.rest.now, refl), e.failed)))

pub loop-try-preserved : goal.loop-try-preserved
loop-try-preserved g c = λ r held' h.
    let rest = c.loop-try.rest.now in
    let n = c.in_ok-count.count in
    let whole = ap (λ (t : List ℕ). take n rest ++ t) (take_rest rest n) ∙ take-append-drop n rest in
    c.loop-try.invariant r held' (subst (λ (t : List ℕ). Writes (g.W.Write.contents c.loop-try.writer) t r held') whole (writes_more _ _ held' (take n rest) _ r c.in_ok-count.ensures.wrote h))

pub returns : goal.returns
returns g c = c.loop-try.invariant (Err Device) (g.W.Write.contents c.loop-try.writer) (writes_nothing _ c.loop-try.rest.now Device tt)

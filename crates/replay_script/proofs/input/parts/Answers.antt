use Rattle.std.proofs.Common.{◌++◌, ◌∷◌, [], sym, ◌∙◌}
use Rattle.replay_script.proofs.PartLaws.{one_more, before_events, at_end}
use Rattle.replay_script.proofs.input.parts.Goals as goal

pub returns-then-eq-clause-some : goal.returns-then-eq-clause-some
returns-then-eq-clause-some c =
    let before = c.loop-line.invariant in
    before_events c.args.script.now c.loop-line.rest.now c.in-Some.line.now c.in-Some.after.now before.0 before.1 (sym c.eq.ensures ∙ c.if-eq.true) c.in-Some.ensures.some.1

pub loop-line-preserved : goal.loop-line-preserved
loop-line-preserved c =
    let before = c.loop-line.invariant in (
      before.0 ++ c.in-Some.line.now ∷ [],
      one_more c.args.script.now c.loop-line.rest.now c.in-Some.line.now c.in-Some.after.now before.0 before.1 c.in-Some.ensures.some.0 (sym c.eq.ensures ∙ c.if-eq.false) c.in-Some.ensures.some.1,
    )

pub returns-then-eq-2-clause-some : goal.returns-then-eq-2-clause-some
returns-then-eq-2-clause-some c =
    let before = c.loop-line.invariant in
    at_end c.args.script.now c.loop-line.rest.now before.0 before.1 (sym c.eq-2.ensures ∙ c.if-eq-2.true)

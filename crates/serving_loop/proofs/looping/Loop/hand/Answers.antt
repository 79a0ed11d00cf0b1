use Rattle.std.proofs.Common.{refl, ap}
use Rattle.step_values.specs.Values.{Outcome}
use Rattle.serving_loop.specs.Serving.{standing}
use Rattle.serving_loop.proofs.Handling.{hands_ok, hands_err}
use Rattle.serving_loop.proofs.looping.Loop.hand.Goals as goal

pub returns-in-Ok : goal.returns-in-Ok
returns-in-Ok g c = hands_ok (standing g.W.Wire.report g.W.Wire.fault_count c.args.self.now) _ _ _ _ _ _ c.in-Ok.outcome _ _ _
    (ap (λ (o : Outcome). o.actions) c.outcome.view_is) (ap (λ (o : Outcome). o.more) c.outcome.view_is)
    c.in-Ok.ensures.row c.in-Ok.ensures.config c.in-Ok.ensures.bounded c.in-Ok.ensures.less c.moment-now.ensures.reports c.words-words.ensures.reports refl refl refl c.put_all.ensures

pub returns-in-Err : goal.returns-in-Err
returns-in-Err g c = hands_err (standing g.W.Wire.report g.W.Wire.fault_count c.args.self.now) _ _ _ _ _ c.in-Err.ensures.err c.in-Err.ensures.bounded c.moment-now.ensures.reports c.words-words.ensures.reports (λ le. c.saturating_add-self.ensures) refl refl refl refl refl

use Rattle.std.proofs.Common.{ap, ◌∙◌}
use Rattle.record_cache.specs.Values.{Held}
use Rattle.record_cache.specs.declared.held.Held.TheInside.{Inside}
use Rattle.record_cache.proofs.Telling.{error_marks}
use Rattle.record_cache.proofs.held.Held.marks.Goals as goal

pub returns-in-None-clause-marks : goal.returns-in-None-clause-marks
returns-in-None-clause-marks g c =
    let inside = ap (λ (h : Inside g.row.A.Denot). h.piece.slot) c.self-inside.view_is ∙ ap (λ (h : Held). h.piece.slot) c.self.view_is in
    error_marks c.octets-octets.result.now c.self-inside.inside.0.1.0.owner c.ending.result c.self-inside.inside.0.1.0.class c.self-inside.inside.0.1.0.kind c.args.self.now.piece.slot
    c.octets-octets.ensures.laid c.octets-octets.ensures.labels c.in-None.is inside c.ending.ensures.ending

use Rattle.std.proofs.Common.{List, ap}
use Rattle.answer_builder.specs.Values.{PieceWithTtl}
use Rattle.answer_builder.specs.Answers.{sections_with_ttls}
use Rattle.answer_builder.specs.Transports.{text_of}
use Rattle.answer_builder.proofs.Chains.{none_past}
use Rattle.answer_builder.proofs.Texts.{gives_as}
use Rattle.answer_builder.proofs.building.build.Goals as goal

pub returns : goal.returns
returns g c =
    let pieces = none_past c.args.moment c.args.chain.now in
    let text = ap (λ (pieces : List PieceWithTtl). text_of c.args.asked.now (sections_with_ttls pieces) c.args.transport) pieces in
    gives_as _ c.build_stale.result _ _ text c.build_stale.ensures

use Rattle.std.proofs.Common.{ap, ◌∙◌}
use Rattle.answer_builder.specs.Answers.{local_sections}
use Rattle.answer_builder.specs.Transports.{text_of}
use Rattle.answer_builder.specs.Values.{Sections}
use Rattle.answer_builder.proofs.Chains.{none_past}
use Rattle.answer_builder.proofs.Texts.{gives_as}
use Rattle.answer_builder.proofs.building.build_local.Goals as goal

pub returns : goal.returns
returns g c =
    let pieces = c.deref.ensures.value ∙ c.in_ok-pieces.ensures ∙ none_past c.args.moment c.args.aliases.now in
    let sections = c.in_ok-denied.ensures ∙ ap local_sections pieces in
    let text = ap (λ (s : Sections). text_of c.args.asked.now s c.args.transport) sections in
    gives_as _ c.built-2.result _ _ text c.built-2.ensures

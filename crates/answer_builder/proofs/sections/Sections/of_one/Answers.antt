use Rattle.std.proofs.Common.{Some, sym, ◌∙◌}
use Rattle.std.proofs.lemmas.List.{append-nil}
use Rattle.answer_builder.specs.Answers.{answers_of}
use Rattle.answer_builder.specs.Building.{ending}
use Rattle.answer_builder.proofs.sections.Sections.of_one.Goals as goal

pub returns : goal.returns
returns g c =
    let pieces = c.args.pieces.now in
    let all = c.set_of.ensures ∙ sym (append-nil (answers_of pieces)) in
    c.ending.ensures ∙ (λ i. ending (all i) (Some pieces))

use Rattle.std.proofs.Common.{◌∙◌}
use Rattle.answer_builder.proofs.Chains.{last_is, pieces_ending}
use Rattle.answer_builder.proofs.sections.Sections.stale.Goals as goal

pub returns : goal.returns
returns g c =
    let last = c.last.ensures.value ∙ last_is c.args.chain.now in
    c.ending.ensures ∙ pieces_ending c.args.chain.now _ _ c.in_ok-sets.ensures last

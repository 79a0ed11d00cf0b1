use Rattle.std.proofs.Common.{map, ◌∙◌}
use Rattle.answer_builder.specs.Answers.{with_ttl}
use Rattle.dns_message.specs.PlainValues.Borrowed.{lent}
use Rattle.answer_builder.proofs.Chains.{pieces_ending}
use Rattle.answer_builder.proofs.sections.Sections.answer.Goals as goal

pub returns : goal.returns
returns g c =
    let pieces = map (with_ttl c.args.moment) (lent c.args.chain.now) in
    let last = c.as_ref.ensures.value ∙ c.last_at-last.ensures in
    c.ending.ensures ∙ pieces_ending pieces _ _ c.in_ok-sets.ensures last

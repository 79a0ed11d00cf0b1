use Rattle.std.proofs.Common.{◌∙◌}
use Rattle.reply_decisions.proofs.fate.AliasLead.question.Goals as goal

pub returns : goal.returns
returns g c =
    let own = c.own.view_is ∙ c.wanted-own.ensures in
    c.from_octets.ensures
    ∙ (λ i. record { name = c.octets.ensures.labels i; kind = (own i).kind; class = (own i).class })

use Rattle.std.proofs.Common.{ℕ, List, ap, ap₂, ◌∙◌}
use Rattle.dns_message.specs.DnsName.Labels.{lowered}
use Rattle.outstanding.specs.declared.keyed.QuestionKey.{QuestionKey}
use Rattle.outstanding.specs.Orders.{name_number}
use Rattle.outstanding.proofs.keyed.QuestionKey.of_ref.Goals as goal

pub returns : goal.returns
returns c =
    let key : List (List ℕ) → ℕ → ℕ → QuestionKey =
    λ name kind class. record { number = name_number name; name = name; kind = kind; class = class } in
    c.of_name.ensures ∙ ap (λ name. key name c.kind.result c.class.result) c.key.ensures
    ∙ ap₂ (λ kind class. key (lowered c.args.question.now.name) kind class) c.kind.ensures c.class.ensures

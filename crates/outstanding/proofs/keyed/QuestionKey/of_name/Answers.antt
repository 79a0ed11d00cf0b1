use Rattle.std.proofs.Common.{◌≡◌, sym, ap, ◌∙◌}
use Rattle.dns_message.specs.DnsName.Labels.{octets_of}
use Rattle.outstanding.specs.Orders.{octets_number}
use Rattle.outstanding.proofs.keyed.QuestionKey.of_name.Goals as goal

pub returns : goal.returns
returns c =
    let octets : c.octets.result.now ≡ octets_of c.args.name =
    sym c.octets.ensures.laid.whole ∙ ap octets_of c.octets.ensures.labels in
    ap (λ number. record { number = number; name = c.args.name; kind = c.args.kind; class = c.args.class })
    (c.number_of.ensures ∙ ap octets_number octets)

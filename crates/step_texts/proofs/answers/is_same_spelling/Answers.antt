use Rattle.std.proofs.Common.{◌≡◌, ◌∙◌, ap, sym}
use Rattle.std.specs.Str.{bytes_eq}
use Rattle.dns_name.specs.Labels.{octets_of}
use Rattle.step_texts.proofs.answers.is_same_spelling.Goals as goal

pub returns : goal.returns
returns g c =
    let a : c.octets.result.now ≡ octets_of c.args.a.now = sym c.octets.ensures.laid.whole ∙ ap octets_of c.octets.ensures.labels in
    let b : c.octets-2.result.now ≡ octets_of c.args.b.now = sym c.octets-2.ensures.laid.whole ∙ ap octets_of c.octets-2.ensures.labels in
    c.eq.ensures ∙ (λ i. bytes_eq (a i) (b i))

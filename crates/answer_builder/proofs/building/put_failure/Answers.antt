use Rattle.std.proofs.Common.{ap, sym, subst, ◌∙◌, arith}
use Rattle.std.specs.Option.{IfSome}
use Rattle.std.proofs.lemmas.Result.{on_ok_weaker}
use Rattle.dns_message.specs.DnsName.Labels.{IsName}
use Rattle.dns_message.proofs.CallerLemmas.{bare_message_is_short}
use Rattle.answer_builder.specs.Values.{Asked}
use Rattle.answer_builder.proofs.Names.{asked_is_named}
use Rattle.answer_builder.proofs.Texts.{bare_text}
use Rattle.answer_builder.proofs.building.put_failure.Goals as goal

pub put_bare-requires-clause-short : goal.put_bare-requires-clause-short
put_bare-requires-clause-short g c =
    let named = subst (λ (a : Asked). IfSome a.question (λ q. IsName q.name)) (sym c.asked.view_is) (asked_is_named _ c.args.asked _ c.well_formed.1.1.0.1) in
    let short = bare_message_is_short c.header_of-header.result c.asked.inside.question named in
    omega (arith, short)

pub returns : goal.returns
returns g c =
    let same = bare_text c.args.asked c.args.rcode c.header_of-header.result c.asked.inside.question c.header_of-header.ensures (ap (λ (a : Asked). a.question) c.asked.view_is) in
    on_ok_weaker c.put_bare.result (λ text. text ∙ same) c.put_bare.ensures

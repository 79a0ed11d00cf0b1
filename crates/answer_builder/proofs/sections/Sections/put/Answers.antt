use Rattle.std.proofs.Common.{[], ◌∷◌, true, false, ap, sym, subst, ◌∙◌, arith}
use Rattle.std.specs.Option.{IfSome}
use Rattle.dns_message.specs.DnsName.Labels.{IsName}
use Rattle.dns_message.proofs.CallerLemmas.{bare_message_is_short}
use Rattle.answer_builder.specs.Values.{Asked, Sections}
use Rattle.answer_builder.specs.Answers.{answer_header}
use Rattle.answer_builder.proofs.Chains.{listed_slice}
use Rattle.answer_builder.proofs.Names.{asked_is_named}
use Rattle.answer_builder.proofs.Texts.{sent_text, gives_as}
use Rattle.answer_builder.proofs.sections.Sections.put.Goals as goal

pub put_text-requires-clause-short : goal.put_text-requires-clause-short
put_text-requires-clause-short g c =
    let named = subst (λ (a : Asked). IfSome a.question (λ q. IsName q.name)) (sym c.asked.view_is) (asked_is_named _ c.args.asked _ c.well_formed.1.1.1.0.1) in
    let short = bare_message_is_short (record c.header_of.result { tc = true }) c.asked.inside.question named in
    omega (arith, short)

pub returns : goal.returns
returns g c =
    let is = c.self.view_is in
    let asked = c.args.asked in
    let code = ap (λ (s : Sections). answer_header asked false s.rcode (0 ∷ 0 ∷ 0 ∷ 0 ∷ [])) is in
    let header = c.header_of.ensures ∙ code in
    let question = ap (λ (a : Asked). a.question) c.asked.view_is in
    let answers = c.as_slice.ensures ∙ ap (λ (s : Sections). s.answers) is in
    let soa = c.as_slice-2 in
    let authority = listed_slice c.self.inside.soa soa.result.now soa.ensures ∙ ap (λ (s : Sections). s.authority) is in
    let same = sent_text asked c.args.self.now c.args.transport c.header_of.result c.asked.inside.question c.as_slice.result.now
    soa.result.now header question answers authority in
    gives_as _ c.put_text.result _ _ same c.put_text.ensures

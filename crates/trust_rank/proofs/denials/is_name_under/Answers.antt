use Rattle.dns_message.proofs.DnsName.CallerLemmas.{is_under_decides, answer_is_test}
use Rattle.trust_rank.proofs.denials.is_name_under.Goals as goal

pub returns : goal.returns
returns g c = answer_is_test _ _ c.is_under.ensures (is_under_decides c.args.name.now c.args.suffix.now)

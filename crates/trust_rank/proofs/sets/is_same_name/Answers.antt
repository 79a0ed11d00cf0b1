use Rattle.dns_message.proofs.DnsName.CallerLemmas.{same_decides, answer_is_test}
use Rattle.trust_rank.proofs.sets.is_same_name.Goals as goal

pub returns : goal.returns
returns g c = answer_is_test _ _ c.same.ensures (same_decides c.args.a.now c.args.b.now)

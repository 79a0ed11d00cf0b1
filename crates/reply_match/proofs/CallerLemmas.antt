-- Lemmas about verdicts that the proofs of crates above cite.
use Rattle.std.proofs.Common.{◌≡◌, ℕ, List}
use Rattle.std.specs.Prelude.{Err}
use Rattle.dns_message.specs.declared.names.fault.Fault.{Fault}
use Rattle.dns_message.specs.Messages.{first_question}
use Rattle.outstanding.specs.SuffixRoutes.declared.peer.Peer.{Peer}
use Rattle.outstanding.specs.Values.{Ask}
use Rattle.reply_match.specs.declared.verdict.Verdict.TheVariants.{Stranger}
use Rattle.reply_match.specs.Verdicts.{judge}
use Rattle.reply_match.proofs.VerdictLaws as verdicts

-- octets whose first question cannot be read are a stranger to each ask
pub unread_question_is_stranger : (ask : Ask) (from : Peer) (octets : List ℕ) (fault : Fault) → first_question octets ≡ Err fault → judge ask from octets ≡ Stranger
unread_question_is_stranger = verdicts.unread_is_stranger

-- Statements about the verdicts.
use Rattle.std.specs.Prelude.{◌≡◌, ◌↔◌, ℕ, false, List, IsOk}
use Rattle.dns_message.specs.Messages.{first_question, message_of}
use Rattle.outstanding.specs.SuffixRoutes.declared.peer.Peer.{Peer}
use Rattle.outstanding.specs.Values.{Ask}
use Rattle.reply_match.specs.declared.verdict.Verdict.TheVariants.{Stranger, Whole}
use Rattle.reply_match.specs.Verdicts.{matches, judge}

-- Octets are a stranger exactly if they do not match.
abbrev pub StrangersDoNotMatch : Type 0
StrangersDoNotMatch = (ask : Ask) (from : Peer) (octets : List ℕ) → (judge ask from octets ≡ Stranger)
    ↔ (matches ask from octets ≡ false)

-- Whole octets can be read: their first question, and the whole message.
abbrev pub WholeIsRead : Type 0
WholeIsRead = (ask : Ask) (from : Peer) (octets : List ℕ) → judge ask from octets ≡ Whole → IsOk (first_question octets)
    × IsOk (message_of octets)

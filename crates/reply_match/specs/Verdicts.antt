-- The verdict on a delivery as the reply to an ask.
use Rattle.std.specs.Prelude.{ℕ, Bool, if◌then◌else◌, ◌==◌, ◌&&◌, ◌||◌, nat_le, List, length, Result, Ok, Err}
use Rattle.dns_message.specs.declared.names.fault.Fault.{Fault}
use Rattle.dns_message.specs.Values.{Message}
use Rattle.dns_message.specs.Header.{header_in}
use Rattle.dns_message.specs.Messages.{message_of}
use Rattle.outstanding.specs.SuffixRoutes.declared.peer.Peer.{Peer}
use Rattle.outstanding.specs.Values.{Ask}
use Rattle.reply_match.specs.declared.verdict.Verdict.{Verdict}
use Rattle.reply_match.specs.declared.verdict.Verdict.TheVariants.{Stranger, Truncated, Failed, Malformed, Whole}
use Rattle.reply_match.specs.Peers.{same_peer}
use Rattle.dns_message.specs.Questions.{one_question}
use Rattle.reply_match.specs.Questions.{asks_this}

-- a reply to a standard query, with the ask's identifier, from its server
abbrev pub is_reply : Ask → Peer → List ℕ → Bool
is_reply ask from octets =
    nat_le 12 (length octets) && nat_le (length octets) 65535 && (header_in octets).qr
    && ((header_in octets).opcode == 0) && ((header_in octets).id == ask.id)
    && same_peer from ask.peer

-- such a reply, with the ask's question alone (RFC 5452 9.1)
abbrev pub matches : Ask → Peer → List ℕ → Bool
matches ask from octets = is_reply ask from octets && asks_this ask.question (one_question octets)

-- the verdict on matching octets, by whether they can be read whole
abbrev pub judged_whole : Result Message Fault → Verdict
judged_whole (Ok message) = Whole
judged_whole (Err fault) = Malformed

-- the first in this order: no match, TC, an RCODE other than 0 and 3, not readable whole; otherwise
-- a whole reply
abbrev pub judge : Ask → Peer → List ℕ → Verdict
judge ask from octets =
    if matches ask from octets
    then
    if (header_in octets).tc
    then Truncated
    else if ((header_in octets).rcode == 0) || ((header_in octets).rcode == 3) then judged_whole (message_of octets)
    else Failed (header_in octets).rcode
    else Stranger

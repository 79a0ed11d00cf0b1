use Rattle.std.proofs.Common.{rules}
use Rattle.dns_message.specs.Header.{header_of}
use Rattle.reply_match.proofs.PeerLaws.{peers_compared}
use Rattle.reply_match.proofs.judging.reply_header.Goals as goal

pub returns-then-is_reply : goal.returns-then-is_reply
unfolding header_of
returns-then-is_reply g c = search (rules, peers_compared)

pub returns-else-is_reply : goal.returns-else-is_reply
unfolding header_of
returns-else-is_reply g c = search (rules, peers_compared)

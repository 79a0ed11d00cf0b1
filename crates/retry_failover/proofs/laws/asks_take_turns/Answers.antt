use Rattle.retry_failover.proofs.InquiryLaws.{turns}
use Rattle.retry_failover.proofs.laws.asks_take_turns.Goals as goal

pub returns : goal.returns
returns c = turns

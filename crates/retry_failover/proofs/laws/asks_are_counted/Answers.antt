use Rattle.retry_failover.proofs.InquiryLaws.{counted}
use Rattle.retry_failover.proofs.laws.asks_are_counted.Goals as goal

pub returns : goal.returns
returns c = counted

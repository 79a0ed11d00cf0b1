use Rattle.retry_failover.proofs.InquiryLaws.{asked}
use Rattle.retry_failover.proofs.laws.every_server_is_asked.Goals as goal

pub returns : goal.returns
returns c = asked

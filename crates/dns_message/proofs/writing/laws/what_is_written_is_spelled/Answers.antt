use Rattle.dns_message.proofs.writing.RoundTripMessage.{message_spelled}
use Rattle.dns_message.proofs.writing.laws.what_is_written_is_spelled.Goals as goal

pub returns : goal.returns
returns c = λ message is counted shapes short. message_spelled message is counted shapes short

use Rattle.dns_message.proofs.writing.Reading.{spelled_message_is_message}
use Rattle.dns_message.proofs.writing.laws.what_is_read_can_be_written.Goals as goal

pub returns : goal.returns
returns c = λ bytes message are spelled. spelled_message_is_message bytes message are spelled

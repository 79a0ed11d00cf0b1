use Rattle.dns_message.proofs.reading.ShapeLaws.{named_sound, named_complete}
use Rattle.dns_message.proofs.reading.laws.names_are_written_out.Goals as goal

pub returns : goal.returns
returns c = λ octets labels. (λ is. named_sound octets labels is, λ name. named_complete octets labels name.0 name.1)

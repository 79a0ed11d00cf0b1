use Rattle.dns_message.proofs.reading.WholeLaws.{spelled_by, of_spelled, one_message, first_sound, first_complete}
use Rattle.dns_message.proofs.reading.ShapeLaws.{spelled_shapes}
use Rattle.dns_message.proofs.reading.laws.messages_are_spelled.Goals as goal

pub returns-clause-read : goal.returns-clause-read
returns-clause-read c = λ bytes message. (λ read. spelled_by bytes message read, λ spelled. of_spelled bytes message spelled)

pub returns-clause-first : goal.returns-clause-first
returns-clause-first c = λ bytes question. (λ read. first_sound bytes question read, λ at. first_complete bytes question at)

pub returns-clause-one : goal.returns-clause-one
returns-clause-one c = λ bytes first second one other. one_message bytes first second one other

pub returns-clause-shaped : goal.returns-clause-shaped
returns-clause-shaped c = λ bytes message spelled. spelled_shapes bytes message spelled

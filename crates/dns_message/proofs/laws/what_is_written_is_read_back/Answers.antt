use Rattle.std.proofs.Common.{◌≡◌, subst}
use Rattle.dns_message.specs.Messages.{Spells}
use Rattle.dns_message.specs.Writing.{written}
use Rattle.dns_message.proofs.CallerLemmas.{written_message_is_spelled, spelled_message_is_read, one_message_is_spelled}
use Rattle.dns_message.proofs.laws.what_is_written_is_read_back.Goals as goal

pub returns-clause-back : goal.returns-clause-back
returns-clause-back c = λ message is counted shapes short. spelled_message_is_read (written message) message (written_message_is_spelled message is counted shapes short)

pub returns-clause-one : goal.returns-clause-one
returns-clause-one c = λ first second is counted shapes short is' counted' shapes' short' alike.
    one_message_is_spelled (written second) first second
    (subst (λ octets. Spells octets first) alike (written_message_is_spelled first is counted shapes short))
    (written_message_is_spelled second is' counted' shapes' short')

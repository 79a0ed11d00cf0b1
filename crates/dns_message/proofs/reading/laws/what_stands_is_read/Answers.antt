use Rattle.dns_message.proofs.names.NameLaws.{name_sound, name_complete}
use Rattle.dns_message.proofs.reading.SpellLaws.{data_sound, data_complete, question_sound, question_complete, record_sound, record_complete}
use Rattle.dns_message.proofs.reading.laws.what_stands_is_read.Goals as goal

pub returns-clause-name : goal.returns-clause-name
returns-clause-name c = λ bytes o e labels. (λ read. name_sound bytes o labels e read, λ at. name_complete bytes o labels e at.0 at.1)

pub returns-clause-rdata : goal.returns-clause-rdata
returns-clause-rdata c = λ kind bytes o len octets. (λ read. (data_sound kind bytes o len octets _ read).0, λ at. data_complete kind bytes o len octets at)

pub returns-clause-question : goal.returns-clause-question
returns-clause-question c = λ bytes o e question. (λ read. question_sound bytes o question e read, λ at. question_complete bytes o question e at)

pub returns-clause-entry : goal.returns-clause-entry
returns-clause-entry c = λ bytes o e entry. (λ read. record_sound bytes o entry e read, λ at. record_complete bytes o entry e at)

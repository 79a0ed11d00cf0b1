use Rattle.dns_message.proofs.reading.SpanLaws.{are_spans, spans_are, no_spans}
use Rattle.dns_message.proofs.reading.laws.spans_are_records.Goals as goal

pub returns-clause-spans : goal.returns-clause-spans
returns-clause-spans c = λ bytes questions o spans row len. (λ is. are_spans bytes questions o spans row len is, λ at. spans_are bytes questions o spans row len at)

pub returns-clause-none : goal.returns-clause-none
returns-clause-none c = λ bytes never. no_spans bytes never

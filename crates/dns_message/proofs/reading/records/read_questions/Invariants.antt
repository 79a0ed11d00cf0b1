use Rattle.std.proofs.Common.{◌≡◌, ◌-◌}
use Rattle.dns_message.specs.Shortcuts.{AreShortcuts}
use Rattle.dns_message.specs.Records.{counted, question_at}
use Rattle.dns_message.proofs.reading.Counting.{after_these}
use Rattle.dns_message.proofs.reading.records.read_questions.Given as goal

abbrev pub invariant-loop : goal.invariant-loop
invariant-loop g l = record { rest : after_these l.questions (counted (question_at l.bytes) (l.count - l.counter) l.at) ≡ counted (question_at l.bytes) l.count l.offset; known : AreShortcuts l.bytes l.ends }

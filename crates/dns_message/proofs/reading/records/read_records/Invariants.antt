use Rattle.std.proofs.Common.{◌≡◌, ◌-◌}
use Rattle.dns_message.specs.Shortcuts.{AreShortcuts}
use Rattle.dns_message.specs.Records.{counted, record_at}
use Rattle.dns_message.proofs.reading.Counting.{after_these}
use Rattle.dns_message.proofs.reading.records.read_records.Given as goal

abbrev pub invariant-loop : goal.invariant-loop
invariant-loop g l = record { rest : after_these l.records (counted (record_at l.bytes) (l.count - l.counter) l.at) ≡ counted (record_at l.bytes) l.count l.offset; known : AreShortcuts l.bytes l.ends }

use Rattle.std.proofs.Common.{◌≡◌, ◌-◌}
use Rattle.dns_message.specs.Reading.{end_read}
use Rattle.dns_message.specs.Sizes.{AreSizes}
use Rattle.dns_message.specs.Records.{counted, record_at}
use Rattle.dns_message.proofs.reading.records.skip_records.Given as goal

abbrev pub invariant-loop : goal.invariant-loop
invariant-loop l = record { rest : end_read (counted (record_at l.bytes) (l.count - l.counter) l.at) ≡ end_read (counted (record_at l.bytes) l.count l.offset); known : AreSizes l.bytes l.sizes }

use Rattle.std.proofs.Common.{◌≡◌, drop}
use Rattle.dns_message.specs.Reading.{end_read}
use Rattle.dns_message.specs.Sizes.{AreSizes}
use Rattle.dns_message.specs.Data.{parts_at}
use Rattle.dns_message.proofs.reading.data.skip_parts.Given as goal

abbrev pub invariant-loop-part : goal.invariant-loop-part
invariant-loop-part l = record { rest : end_read (parts_at (drop l.part-index l.parts) l.bytes l.stop l.at) ≡ end_read (parts_at l.parts l.bytes l.stop l.offset); known : AreSizes l.bytes l.sizes }

use Rattle.std.proofs.Common.{◌/◌, ◌%◌, [], ◌∷◌, refl, append_assoc}
use Rattle.dns_message.specs.Writing.{octets16}
use Rattle.dns_message.proofs.writing.WriterLaws.{holds_more}
use Rattle.dns_message.proofs.writing.writer.Writer.put_u16.Goals as goal

pub returns : goal.returns
returns g c =
    holds_more c.args.self.now _ (octets16 c.args.number)
    (rw (c.in_ok-push-2.ensures.items, c.in_ok-push.ensures.items, c.to_be_bytes.ensures) (append_assoc c.args.self.now.octets.items (c.args.number / 256 % 256 ∷ []) (c.args.number % 256 ∷ []))) refl

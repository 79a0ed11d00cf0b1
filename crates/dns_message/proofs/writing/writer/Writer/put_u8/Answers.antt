use Rattle.std.proofs.Common.{[], ◌∷◌, refl}
use Rattle.dns_message.proofs.writing.WriterLaws.{holds_more}
use Rattle.dns_message.proofs.writing.writer.Writer.put_u8.Goals as goal

pub returns : goal.returns
returns g c = holds_more c.args.self.now _ (c.args.octet ∷ []) c.in_ok-push.ensures.items refl

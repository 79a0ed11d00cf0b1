use Rattle.std.proofs.Common.{sym, eqb-true}
use Rattle.dns_message.proofs.writing.PointerLaws.{none_known, nothing_in}
use Rattle.dns_message.proofs.writing.pointers.Pointers.is_empty.Goals as goal

pub returns-then-is_empty : goal.returns-then-is_empty
returns-then-is_empty g c = λ both name.
    none_known c.args.self.now name (nothing_in c.args.self.now.few.items (eqb-true _ _ (sym c.if-is_empty.ensures))) (nothing_in c.args.self.now.many.entries (c.is_empty-then-is_empty.ensures.0 both))
